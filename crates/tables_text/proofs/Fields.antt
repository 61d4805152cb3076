-- A record's fields: the words between spaces, read one after the other.
-- Assumes nothing.
use Rattle.std.proofs.Common.{None, Option, Some}
use mathlib.Core.Path.{◌≡◌, refl, sym, ap, ap₂, ◌∙◌, subst}
use mathlib.Core.List.{List, [], ◌∷◌, ◌++◌, append-nil}
use Prim.Native.Nat.{ℕ, suc, ◌+◌, ◌-◌, ◌*◌, ◌≤◌, ◌<◌}
use native.Mathlib.Omega.{arith}
use lib.Dec.{eqb}
use lib.ListN.{length, take, drop, set, length-set, length-append, drop_of_length-le}
use lib.Seq.{take-set-le, take-suc-set, drop-drop, append_snoc, length-take-le}
use Rattle.ground.specs.Options.{over}
use Rattle.ground.proofs.Tests.{by_test}
use Rattle.ground.proofs.Lists.{at_place}
use Rattle.lexicon.specs.Span.{span_by}
use Rattle.tables.specs.Sort.{Sort, record_of}
use Rattle.tables_text.specs.Parse.{span_to, space, numeral, grown, pieces, further, numerals, record_in}
use Rattle.tables_text.specs.Told.{number_told, record_told, FieldsPut}
use Rattle.tables_text.proofs.Cuts.{end_le, word-long}
use Rattle.tables_text.proofs.Numerals.{told_is, told-other}

-- the first word goes to the first space
pub pieces_span : (s : List ℕ) → pieces s ≡ take (span_to space s) s ∷ further (drop (span_to space s) s)
unfolding pieces span_by
pieces_span [] = refl
pieces_span (b ∷ bs) =
    by_test (eqb b space)
    (λ e. rw e)
    (λ e. rw e (ap (grown b) (pieces_span bs)))

-- words that are there already, and those that are still to be read
abbrev pub ahead : List ℕ → Option (List ℕ) → Option (List ℕ)
ahead xs None = None
ahead xs (Some ys) = Some (xs ++ ys)

ahead_none : (xs : List ℕ) (o : Option (List ℕ)) → None ≡ ahead xs o → o ≡ None
ahead_none xs None h = refl
ahead_none xs (Some ys) h = let z : ◌≡◌ {A = ℕ} 0 1 = cc in absurd (omega arith)

ahead-some : (ws xs : List ℕ) (o : Option (List ℕ)) → Some ws ≡ ahead xs o → (ys : List ℕ) × (o ≡ Some ys) × (ws ≡ xs ++ ys)
ahead-some ws xs None h = let z : ◌≡◌ {A = ℕ} 0 1 = cc in absurd (omega arith)
ahead-some ws xs (Some ys) h = (ys, refl, cc)

ahead-one : (xs : List ℕ) (x : ℕ) (o : Option (List ℕ)) → ahead (xs ++ (x ∷ [])) o ≡ ahead xs (over o (λ ns. Some (x ∷ ns)))
ahead-one xs x None = refl
ahead-one xs x (Some ys) = ap Some (append_snoc xs x ys)

pub record Fielding (s entry : List ℕ) (before first at count : ℕ) (fields : List ℕ) : Type 0 where
  pub room : before * 2 + length s ≤ length entry * 2
  pub long : length fields ≡ length entry
  pub within : at ≤ length s
  pub few : count * 2 + 12 ≤ at
  pub stay : take before fields ≡ take before entry
  pub left : ahead (take (before + count) fields) (numerals (further (drop at s))) ≡ ahead (take before entry) (numerals (further (drop first s)))

module _ (s entry : List ℕ) (before first : ℕ) (long : 12 ≤ length s) (e : first ≡ 12 + span_to space (drop 12 s)) where
  pub fielding_start : before * 2 + length s ≤ length entry * 2 → Fielding s entry before first first 0 entry
  fielding_start h = record {
    room = h;
    long = refl;
    within = end_le space s 12 first long e;
    few = omega (arith, e);
    stay = refl;
    left = let z : before + 0 ≡ before = omega arith in ap (λ (k : ℕ). ahead (take k entry) (numerals (further (drop first s)))) z;
  }

  record_read : (o : Option (List ℕ)) → numerals (further (drop first s)) ≡ o → record_in (drop 12 s) ≡ over o (λ rows. Some (record_of (take (first - 12) (drop 12 s)) rows))
  unfolding record_in
  record_read o q =
      let n : span_to space (drop 12 s) ≡ first - 12 = omega (arith, e) in
      let d : drop (span_to space (drop 12 s)) (drop 12 s) ≡ drop first s = drop-drop (span_to space (drop 12 s)) 12 s ∙ ap (λ (k : ℕ). drop k s) (sym e) in
      ap₂ (λ (x : Option (List ℕ)) (k : ℕ). over x (λ rows. Some (record_of (take k (drop 12 s)) rows))) (ap (λ (l : List ℕ). numerals (further l)) d ∙ q) n

  module _ (at count : ℕ) (fields : List ℕ) (so : Fielding s entry before first at count fields) where
    RecordRow : Sort → List ℕ → List ℕ → Type 0
    RecordRow t name rows = ◌≡◌ {A = Option Sort} (Some t) (Some (record_of name rows))

    rows_of : (a b x y : List ℕ) → ◌≡◌ {A = Option Sort} (Some (record_of a x)) (Some (record_of b y)) → x ≡ y
    rows_of a b x y q = cc

    pub fielding_end : length s ≤ at → FieldsPut before (drop 12 s) entry fields (Some (record { name = first - 12; count = count }))
    unfolding numerals
    fielding_end h =
        let z : numerals (further (drop at s)) ≡ Some [] = ap (λ (l : List ℕ). numerals (further l)) (drop_of_length-le s h) in
        let g = ahead-some (take (before + count) fields) (take before entry) (numerals (further (drop first s)))
        (ap Some (sym (append-nil (take (before + count) fields))) ∙ sym (ap (ahead (take (before + count) fields)) z) ∙ so.left) in
        let ws = g.0 in
        let held : take (before + count) fields ≡ take before entry ++ ws = g.2 in
        let r = record_read (Some ws) g.1 in
        let n : count ≡ length ws =
        omega (
          arith,
          so.few,
          so.within,
          so.room,
          so.long,
          ap length held,
          length-append (take before entry) ws,
          length-take-le before entry (omega (arith, so.room)),
          length-take-le (before + count) fields (omega (arith, so.few, so.within, so.room, so.long)),
        ) in
        record {
          answers =
              ap₂ (λ (x y : ℕ). (Some (record { name = x; count = y }))) (sym (word-long space s 12 first long e)) n
              ∙ ap record_told (sym r);
          stay = so.stay;
          holds = λ name rows q.
              let w : ws ≡ rows = rows_of (take (first - 12) (drop 12 s)) name ws rows (sym r ∙ q) in
              subst (λ (x : List ℕ). take (before + length x) fields ≡ take before entry ++ x) w (subst (λ (k : ℕ). take (before + k) fields ≡ take before entry ++ ws) n held);
        }

    module _ (less : at < length s) (end : ℕ) (f : end ≡ at + 1 + span_to space (drop (at + 1) s)) (r : Option ℕ) (g : r ≡ number_told (numeral (take (end - (at + 1)) (drop (at + 1) s)))) where
      word-here : numerals (further (drop at s)) ≡ over (numeral (take (end - (at + 1)) (drop (at + 1) s))) (λ n. over (numerals (further (drop end s))) (λ ns. Some (n ∷ ns)))
      unfolding numerals
      word-here =
          let n : span_to space (drop (at + 1) s) ≡ end - (at + 1) = omega (arith, f) in
          let d : drop (span_to space (drop (at + 1) s)) (drop (at + 1) s) ≡ drop end s = drop-drop (span_to space (drop (at + 1) s)) (at + 1) s ∙ ap (λ (k : ℕ). drop k s) (sym f) in
          ap (λ (l : List ℕ). numerals (further l)) (at_place s at less)
          ∙ ap numerals (pieces_span (drop (at + 1) s))
          ∙ ap₂ (λ (k : ℕ) (l : List ℕ). numerals (take k (drop (at + 1) s) ∷ further l)) n d

      pub fielding_other : r ≡ None → FieldsPut before (drop 12 s) entry fields None
      fielding_other o =
          let w : numeral (take (end - (at + 1)) (drop (at + 1) s)) ≡ None = told-other (numeral (take (end - (at + 1)) (drop (at + 1) s))) (sym o ∙ g) in
          let z : numerals (further (drop at s)) ≡ None = word-here ∙ ap (λ (x : Option ℕ). over x (λ n. over (numerals (further (drop end s))) (λ ns. Some (n ∷ ns)))) w in
          let t = record_read None (ahead_none (take before entry) (numerals (further (drop first s))) (sym (ap (ahead (take (before + count) fields)) z) ∙ so.left)) in
          record {
            answers = ap record_told (sym t);
            stay = so.stay;
            holds = λ name rows q. let y : None ≡ Some (record_of name rows) = sym t ∙ q in let x : ◌≡◌ {A = ℕ} 0 1 = cc in absurd (omega arith);
          }

      module _ (n : ℕ) (o : r ≡ Some n) where
        is_number : numeral (take (end - (at + 1)) (drop (at + 1) s)) ≡ Some n
        is_number = told_is (numeral (take (end - (at + 1)) (drop (at + 1) s))) n (sym o ∙ g)

        some-digit : (w : List ℕ) → numeral w ≡ Some n → 1 ≤ length w
        unfolding numeral
        some-digit [] h = let x : ◌≡◌ {A = ℕ} 0 1 = cc in absurd (omega arith)
        some-digit (b ∷ bs) h = omega arith

        pub fielding_on : at + 2 ≤ end
        fielding_on = omega (arith, some-digit (take (end - (at + 1)) (drop (at + 1) s)) is_number, word-long space s (at + 1) end (omega (arith, less)) f)

        pub fielding_room : before + count < length fields
        fielding_room = omega (arith, so.few, less, so.room, so.long)

        pub fielding_step : Fielding s entry before first end (count + 1) (set fields (before + count) n)
        fielding_step = record {
          room = so.room;
          long = length-set fields (before + count) n ∙ so.long;
          within = end_le space s (at + 1) end (omega (arith, less)) f;
          few = omega (arith, fielding_on, so.few);
          stay = take-set-le before fields (before + count) n (omega arith) ∙ so.stay;
          left =
              let k : before + (count + 1) ≡ suc (before + count) = omega arith in
              ap (λ (l : List ℕ). ahead l (numerals (further (drop end s))))
              (ap (λ (i : ℕ). take i (set fields (before + count) n)) k ∙ take-suc-set fields (before + count) n fielding_room)
              ∙ ahead-one (take (before + count) fields) n (numerals (further (drop end s)))
              ∙ ap (ahead (take (before + count) fields)) (sym (word-here ∙ ap (λ (x : Option ℕ). over x (λ m. over (numerals (further (drop end s))) (λ ns. Some (m ∷ ns)))) is_number))
              ∙ so.left;
        }
