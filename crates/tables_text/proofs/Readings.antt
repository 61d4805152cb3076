-- The reader's decision is what document 01 asks: a text is read exactly if it is the text form of lawful tables.
-- Assumes nothing.
use Rattle.std.proofs.lemmas.Option.{same_Some}
use Rattle.std.specs.Prelude.{⊤}
use Rattle.std.proofs.Common.{None, Option, Some, Err, Ok, Result}
use mathlib.Core.Path.{◌≡◌, refl, sym, ap, ap₂, ◌∙◌, subst}
use mathlib.Core.Bool.{Bool, true, false, cond, ◌&&◌, true≢false}
use mathlib.Core.List.{List, [], ◌∷◌, ◌++◌, append-nil}
use Prim.Native.Nat.{ℕ, zero, suc, ◌≤◌, ◌<◌}
use native.Mathlib.Omega.{arith}
use lib.ListN.{length, take, drop, length-take}
use borrow.Author.Tests.{le-leb, lt-leb}
use Rattle.ground.specs.Lists.{all}
use Rattle.ground.specs.Options.{over}
use Rattle.ground.proofs.Options.{over-some}
use Rattle.ground.proofs.Tests.{by_test, by_order, one-result, both}
use Rattle.lexicon.proofs.Spans.{all_take}
use Rattle.refusals.specs.declared.Refusal.{Refusal}
use Rattle.refusals.specs.declared.Refusal.TheVariants.{InputTooLong, BadTable}
use Rattle.tables.specs.Sort.{Tables, Member}
use Rattle.tables.specs.Layout.{Lent}
use Rattle.tables.specs.Rules.{row_limit, lawful}
use Rattle.tables.specs.Check.{passes, checked}
use Rattle.tables_text.specs.Line.{lines, written, writable, one_line, sort_line, variable_line, function_line, member_line}
use Rattle.tables_text.specs.Words.{laid}
use Rattle.tables_text.specs.Parse.{apart, span_to, space, line_feed, Cut, cut_at, numeral, Led, led, member_after, member_in, sort_in, variable_in, function_in, Walked, went, line_row, walk, sort_rows, variable_rows, function_rows, member_rows, ended, begins, parse}
use Rattle.tables_text.specs.Parsing.{Held, sizes, parsed_told, Parses, passing_told, Passing}
use Rattle.tables_text.specs.Read.{text_limit, Spells, Buffers, Left, refusing, fitted, Leaves, Reads}
use Rattle.tables_text.specs.Reading.{judged, of_parsed, of_text, reading}
use Rattle.tables_text.specs.Fronts.{answer_told, Within, Storable, Stored}
use Rattle.tables_text.proofs.Cuts.{clear, cut_found, cut_none}
use Rattle.tables_text.proofs.Clears.{clear-drop, clear-one-line}
use Rattle.tables_text.proofs.Spelled.{test_some, sort-sound, variable-sound, function-sound, member-sound}
use Rattle.tables_text.proofs.Parses.{walk-sound}
use Rattle.tables_text.proofs.Back.{read_back}
use Rattle.tables_text.proofs.Meanings.{laid-means, laid-formed}
use Rattle.tables_text.proofs.Stores.{leaves-refused, left_by, fitted-so, read-within}
use Rattle.tables_text.specs.declared.parse.Counts.{Counts}
use Rattle.ground.proofs.Options.{some-same}

-- a member's text is on its line
cut_rest : (byte : ℕ) (s : List ℕ) (c : Cut) → cut_at byte s ≡ Some c → drop (suc (span_to byte s)) s ≡ c.rest
cut_rest byte s c h =
    by_order (span_to byte s) (length s)
    (λ l. ap (λ (d : Cut). d.rest) (same_Some _ _ (sym (cut_found byte s l) ∙ h)))
    (λ l. let q : None ≡ Some c = sym (cut_none byte s l) ∙ h in let z : ◌≡◌ {A = ℕ} 0 1 = cc in absurd (omega arith))

cut_clear-rest : (s : List ℕ) (c : Cut) → clear line_feed s ≡ true → cut_at space s ≡ Some c → clear line_feed c.rest ≡ true
cut_clear-rest s c h q = subst (λ (l : List ℕ). clear line_feed l ≡ true) (cut_rest space s c q) (clear-drop line_feed (suc (span_to space s)) s h)

led-clear-rest : (s : List ℕ) (d : Led) → clear line_feed s ≡ true → led s ≡ Some d → clear line_feed d.rest ≡ true
unfolding led
led-clear-rest s d h q =
    let a = over-some (cut_at space s) (λ c. over (numeral c.word) (λ n. Some (record { number = n; word = c.word; rest = c.rest }))) d q in
    let b = over-some (numeral a.0.word) (λ n. Some (record { number = n; word = a.0.word; rest = a.0.rest })) d a.2 in
    subst (λ (x : Led). clear line_feed x.rest ≡ true) (same_Some _ _ b.2) (cut_clear-rest s a.0 h a.1)

member-one-line : (s : List ℕ) (m : Member) → clear line_feed s ≡ true → member_in s ≡ Some m → one_line m.text ≡ true
unfolding member_in member_after
member-one-line s m h q =
    let k = test_some (begins _ s) (member_after (drop 5 s)) m q in
    let a = over-some (cut_at space (drop 5 s)) (λ c. over (led c.rest) (λ d. Some (record { name = c.word; entity = d.number; text = d.rest }))) m k.1 in
    let b = over-some (led a.0.rest) (λ d. Some (record { name = a.0.word; entity = d.number; text = d.rest })) m a.2 in
    subst (λ (x : Member). one_line x.text ≡ true) (same_Some _ _ b.2)
    (clear-one-line b.0.rest (led-clear-rest a.0.rest b.0 (cut_clear-rest (drop 5 s) a.0 (clear-drop line_feed 5 s h) a.1) b.1))

line-member : (s : List ℕ) (m : Member) → line_row member_in s ≡ Some m → one_line m.text ≡ true
unfolding line_row
line-member s m h =
    by_order (span_to line_feed s) (length s)
    (λ l. member-one-line (take (span_to line_feed s) s) m (all_take (apart line_feed) s) (ap (λ (o : Option Cut). over o (λ c. member_in c.word)) (sym (cut_found line_feed s l)) ∙ h))
    (λ l. let q : None ≡ Some m = ap (λ (o : Option Cut). over o (λ c. member_in c.word)) (sym (cut_none line_feed s l)) ∙ h in let z : ◌≡◌ {A = ℕ} 0 1 = cc in absurd (omega arith))

members-one-line : (most : ℕ) (s : List ℕ) → all (λ m. one_line m.text) (walk member_in most s).rows ≡ true
unfolding walk all
members-one-line zero s = refl
members-one-line (suc most) s = by_row (line_row member_in s) refl (walk member_in most (drop (suc (span_to line_feed s)) s)) (members-one-line most (drop (suc (span_to line_feed s)) s))
  where
    by_row : (o : Option Member) → line_row member_in s ≡ o → (w : Walked Member) → all (λ m. one_line m.text) w.rows ≡ true → all (λ m. one_line m.text) (went s o w).rows ≡ true
    by_row None e w h = refl
    by_row (Some m) e w h = both (line-member s m e) h

-- what is read is written as the text
module _ (s : List ℕ) (t : Tables) (h : parse s ≡ Some t) where
  whole : {A : Type 0} (r : List ℕ) (x y : A) → ended r x ≡ Some y → (r ≡ []) × (x ≡ y)
  whole [] x y q = (refl, same_Some _ _ q)
  whole (b ∷ bs) x y q = let z : ◌≡◌ {A = ℕ} 0 1 = cc in absurd (omega arith)

  abbrev spelt : Tables
  spelt = record { sorts = (sort_rows s).rows; variables = (variable_rows s).rows; functions = (function_rows s).rows; members = (member_rows s).rows }

  to_end : ((member_rows s).rest ≡ []) × (spelt ≡ t)
  unfolding parse
  to_end = whole (member_rows s).rest spelt t h

  pub spelled-so : written t ≡ s
  unfolding written
  spelled-so =
      ap written (sym to_end.1)
      ∙ sym (walk-sound sort_in sort_line sort-sound row_limit s
      ∙ ap (λ (l : List ℕ). lines sort_line (sort_rows s).rows ++ l)
      (walk-sound variable_in variable_line variable-sound row_limit (sort_rows s).rest
      ∙ ap (λ (l : List ℕ). lines variable_line (variable_rows s).rows ++ l)
      (walk-sound function_in function_line function-sound row_limit (variable_rows s).rest
      ∙ ap (λ (l : List ℕ). lines function_line (function_rows s).rows ++ l)
      (walk-sound member_in member_line member-sound row_limit (function_rows s).rest
      ∙ ap (λ (l : List ℕ). lines member_line (member_rows s).rows ++ l) to_end.0
      ∙ append-nil (lines member_line (member_rows s).rows)))))

  pub spelled-writable : writable t ≡ true
  unfolding writable
  spelled-writable = ap writable (sym to_end.1) ∙ members-one-line row_limit (function_rows s).rest

-- the check of the laid words is the rules for the tables
pub passes-lawful : (t : Tables) (text : List ℕ) → text ≡ written t → passes (laid t text) ≡ lawful t
unfolding passes
passes-lawful t text q =
    ap (λ (l : List ℕ). passes (laid t l)) q
    ∙ ap₂ (λ (a : Bool) (u : Tables). a && lawful u) (laid-formed t) (laid-means t)

module _ (text : List ℕ) where
  spells-parse : (t : Tables) → Spells text t → parse text ≡ Some t
  spells-parse t s = ap parse s.same ∙ read_back t s.lawful s.writable

  parse-spells : (t : Tables) → parse text ≡ Some t → lawful t ≡ true → Spells text t
  parse-spells t h q = record { same = sym (spelled-so text t h); writable = spelled-writable text t h; lawful = q }

  -- whether there are tables that the text spells is decided by reading it
  pub by-spelling {ℓ} : {P : Type ℓ} → ((t : Tables) → Spells text t → P) → (((t : Tables) → Spells text t → ⊥) → P) → P
  by-spelling {P} f g = by-parse (parse text) refl
    where
      by-parse : (o : Option Tables) → parse text ≡ o → P
      by-parse None e = g (λ t s. let q : None ≡ Some t = sym e ∙ spells-parse t s in let z : ◌≡◌ {A = ℕ} 0 1 = cc in omega arith)
      by-parse (Some t) e =
          by_test (lawful t)
          (λ q. f t (parse-spells t e q))
          (λ q. g (λ u s. true≢false (sym s.lawful ∙ ap lawful (same_Some _ _ (sym (spells-parse u s) ∙ e)) ∙ q)))

  module _ (entry : Buffers) where
    pub text-spelled : (t : Tables) → Spells text t → of_text entry text ≡ fitted entry (laid t text)
    unfolding of_text judged
    text-spelled t s =
        ap (of_parsed entry text) (spells-parse t s)
        ∙ ap (λ (b : Bool). cond b (fitted entry (laid t text)) (refusing entry BadTable)) (passes-lawful t text s.same ∙ s.lawful)

    pub text-other : ((t : Tables) → Spells text t → ⊥) → of_text entry text ≡ refusing entry BadTable
    unfolding of_text judged
    text-other never = by-parse (parse text) refl
      where
        by-parse : (o : Option Tables) → parse text ≡ o → of_parsed entry text (parse text) ≡ refusing entry BadTable
        by-parse None e = ap (of_parsed entry text) e
        by-parse (Some t) e =
            ap (of_parsed entry text) e
            ∙ ap (λ (b : Bool). cond b (fitted entry (laid t text)) (refusing entry BadTable)) (passes-lawful t text (sym (spelled-so text t e)))
            ∙ by_test (lawful t)
            (λ q. absurd (never t (parse-spells t e q)))
            (λ q. ap (λ (b : Bool). cond b (fitted entry (laid t text)) (refusing entry BadTable)) q)

    module _ (r : Result Counts Refusal) (exit : Buffers) where
      leaves_as : {a b : Left} → a ≡ b → Leaves a r exit → Leaves b r exit
      leaves_as q l = subst (λ (x : Left). Leaves x r exit) q l

      pub reads_short : length text ≤ text_limit → Leaves (of_text entry text) r exit → Reads text entry r exit
      reads_short h l = record {
        long = λ k. absurd (omega arith);
        spelled = λ _ t s. leaves_as (text-spelled t s) l;
        other = λ _ never. leaves_as (text-other never) l;
      }

      pub so-reads : Reads text entry r exit → Leaves (reading entry text) r exit
      unfolding reading
      so-reads d =
          by_order text_limit (length text)
          (λ h. leaves_as (sym (ap (λ (b : Bool). cond b (of_text entry text) (refusing entry InputTooLong)) (lt-leb (length text) text_limit h))) (d.long h))
          (λ h. leaves_as (sym (ap (λ (b : Bool). cond b (of_text entry text) (refusing entry InputTooLong)) (le-leb (length text) text_limit h)))
          (by-spelling
          (λ t s. leaves_as (sym (text-spelled t s)) (d.spelled h t s))
          (λ never. leaves_as (sym (text-other never)) (d.other h never))))

    -- any two results that the contract allows are equal, and so are the buffers
    pub one-reading : {r s : Result Counts Refusal} {x y : Buffers} → Reads text entry r x → Reads text entry s y → (r ≡ s) × (x ≡ y)
    one-reading {r} {s} {x} {y} p q =
        let a = so-reads r x p in
        let b = so-reads s y q in
        (one-result a.answers b.answers, one-result a.holds b.holds)

-- lawful tables whose text form is within the limit are read from it, and what is left is their words
pub reads-back : (t : Tables) (entry : Buffers) {r : Result Counts Refusal} {exit : Buffers} → lawful t ≡ true → writable t ≡ true → length (written t) ≤ text_limit
    → Reads (written t) entry r exit → Leaves (fitted entry (laid t (written t))) r exit
reads-back t entry h w k d = d.spelled k t (record { same = refl; writable = w; lawful = h })

-- what the code's parts answer
lent-equal : {a b c d e f g h i j : List ℕ} (names : List ℕ) → a ≡ f → b ≡ g → c ≡ h → d ≡ i → e ≡ j
    → ◌≡◌ {A = Lent} (record { sorts = a; fields = b; variables = c; functions = d; members = e; names = names }) (record { sorts = f; fields = g; variables = h; functions = i; members = j; names = names })
lent-equal names p q r s t = simp (p, q, r, s, t)

-- tables whose words stand at the fronts of the rooms
record Spelt (text a b c d e : List ℕ) (i j k m n : ℕ) : Type 0 where
  tables : Tables
  is : parse text ≡ Some tables
  held : Held (laid tables text) a b c d e
  size_1 : i ≡ length (laid tables text).sorts
  size_2 : j ≡ length (laid tables text).fields
  size_3 : k ≡ length (laid tables text).variables
  size_4 : m ≡ length (laid tables text).functions
  size_5 : n ≡ length (laid tables text).members

module _ (text a b c d e : List ℕ) (i j k m n : ℕ) (s : Spelt text a b c d e i j k m n) where
  fits : (size : ℕ) (ws room : List ℕ) → size ≡ length ws → take (length ws) room ≡ ws → size ≤ length room
  fits size ws room s h = omega (arith, s, ap length h, length-take (length ws) room)

  spelt-within : Within i j k m n (record { sorts = a; fields = b; variables = c; functions = d; members = e })
  spelt-within = record {
    sorts = fits i (laid s.tables text).sorts a s.size_1 s.held.sorts;
    fields = fits j (laid s.tables text).fields b s.size_2 s.held.fields;
    variables = fits k (laid s.tables text).variables c s.size_3 s.held.variables;
    functions = fits m (laid s.tables text).functions d s.size_4 s.held.functions;
    members = fits n (laid s.tables text).members e s.size_5 s.held.members;
  }

  abbrev front : Lent
  front = record { sorts = take i a; fields = take j b; variables = take k c; functions = take m d; members = take n e; names = text }

  spelt-fronts : front ≡ laid s.tables text
  unfolding laid
  spelt-fronts =
      lent-equal text
      (ap (λ (z : ℕ). take z a) s.size_1 ∙ s.held.sorts)
      (ap (λ (z : ℕ). take z b) s.size_2 ∙ s.held.fields)
      (ap (λ (z : ℕ). take z c) s.size_3 ∙ s.held.variables)
      (ap (λ (z : ℕ). take z d) s.size_4 ∙ s.held.functions)
      (ap (λ (z : ℕ). take z e) s.size_5 ∙ s.held.members)

module _ (text a b c d e : List ℕ) (r : Option Counts) (p : Parses text a b c d e r) where
  pub passing_unparsed : r ≡ None → Passing text a b c d e None
  passing_unparsed q = record { answers = by-parse (parse text) refl; holds = p.holds }
    where
      by-parse : (o : Option Tables) → parse text ≡ o → None ≡ passing_told text (parse text)
      by-parse None k = ap (passing_told text) (sym k)
      by-parse (Some t) k =
          let y : None ≡ parsed_told text (Some t) = sym q ∙ p.answers ∙ ap (parsed_told text) k in
          let z : ◌≡◌ {A = ℕ} 0 1 = cc in
          absurd (omega arith)

  module _ (i j k m n : ℕ) (q : r ≡ Some (record { sorts = i; fields = j; variables = k; functions = m; members = n })) where
    parsed-spelt : Spelt text a b c d e i j k m n
    parsed-spelt = by-parse (parse text) refl
      where
        by-parse : (o : Option Tables) → parse text ≡ o → Spelt text a b c d e i j k m n
        by-parse None s =
            let y : (Some (record { sorts = i; fields = j; variables = k; functions = m; members = n })) ≡ None = sym q ∙ p.answers ∙ ap (parsed_told text) s in
            let z : ◌≡◌ {A = ℕ} 0 1 = cc in
            absurd (omega arith)
        by-parse (Some t) s =
            let y : (Some (record { sorts = i; fields = j; variables = k; functions = m; members = n })) ≡ parsed_told text (Some t) = sym q ∙ p.answers ∙ ap (parsed_told text) s in
            let u = some-same y in
            record { tables = t; is = s; held = p.holds t s; size_1 = ap (λ (r : Counts). r.sorts) u; size_2 = ap (λ (r : Counts). r.fields) u; size_3 = ap (λ (r : Counts). r.variables) u; size_4 = ap (λ (r : Counts). r.functions) u; size_5 = ap (λ (r : Counts). r.members) u }

    parsed-within : Within i j k m n (record { sorts = a; fields = b; variables = c; functions = d; members = e })
    parsed-within = spelt-within text a b c d e i j k m n parsed-spelt

    pub fits_1 : i ≤ length a
    fits_1 = parsed-within.sorts

    pub fits_2 : j ≤ length b
    fits_2 = parsed-within.fields

    pub fits_3 : k ≤ length c
    fits_3 = parsed-within.variables

    pub fits_4 : m ≤ length d
    fits_4 = parsed-within.functions

    pub fits_5 : n ≤ length e
    fits_5 = parsed-within.members

    module _ (answer : Result ⊤ Refusal)
        (h : answer ≡ checked (record { sorts = take i a; fields = take j b; variables = take k c; functions = take m d; members = take n e; names = text })) where
      told : answer ≡ checked (laid parsed-spelt.tables text)
      told =
          h ∙ ap (λ (l : Lent). checked l)
          (spelt-fronts text a b c d e i j k m n parsed-spelt)

      passing_by : (t : Bool) → passes (laid parsed-spelt.tables text) ≡ t → passing_told text (parse text) ≡ cond t (sizes (laid parsed-spelt.tables text)) None
      passing_by t g = ap (passing_told text) parsed-spelt.is ∙ ap (λ (b : Bool). cond b (sizes (laid parsed-spelt.tables text)) None) g

      pub passing_passed : answer ≡ (Ok tt) → Passing text a b c d e (Some (record { sorts = i; fields = j; variables = k; functions = m; members = n }))
      passing_passed g =
          by_test (passes (laid parsed-spelt.tables text))
          (λ f. record { answers = sym q ∙ p.answers ∙ ap (parsed_told text) parsed-spelt.is ∙ sym (passing_by true f); holds = p.holds })
          (λ f.
          let y : (Ok tt) ≡ Err BadTable = sym g ∙ told ∙ ap (λ (b : Bool). cond b (Ok tt) (Err BadTable)) f in
          let z : ◌≡◌ {A = ℕ} 0 1 = cc in
          absurd (omega arith))

      pub passing_refused : (why : Refusal) → answer ≡ Err why → Passing text a b c d e None
      passing_refused why g =
          by_test (passes (laid parsed-spelt.tables text))
          (λ f.
          let y : Err why ≡ (Ok tt) = sym g ∙ told ∙ ap (λ (b : Bool). cond b (Ok tt) (Err BadTable)) f in
          let z : ◌≡◌ {A = ℕ} 0 1 = cc in
          absurd (omega arith))
          (λ f. record { answers = sym (passing_by false f); holds = p.holds })

module _ (text a b c d e : List ℕ) (r : Option Counts) (p : Passing text a b c d e r) where
  text_unparsed : (entry : Buffers) → r ≡ None → of_text entry text ≡ refusing entry BadTable
  unfolding of_text judged
  text_unparsed entry q = by-parse (parse text) refl
    where
      by-parse : (o : Option Tables) → parse text ≡ o → of_parsed entry text (parse text) ≡ refusing entry BadTable
      by-parse None k = ap (of_parsed entry text) k
      by-parse (Some t) k =
          ap (of_parsed entry text) k
          ∙ by_test (passes (laid t text))
          (λ f.
          let y : None ≡ sizes (laid t text) = sym q ∙ p.answers ∙ ap (passing_told text) k ∙ ap (λ (b : Bool). cond b (sizes (laid t text)) None) f in
          let z : ◌≡◌ {A = ℕ} 0 1 = cc in
          absurd (omega arith))
          (λ f. ap (λ (b : Bool). cond b (fitted entry (laid t text)) (refusing entry BadTable)) f)

  module _ (i j k m n : ℕ) (q : r ≡ Some (record { sorts = i; fields = j; variables = k; functions = m; members = n })) where
    record Passed-so : Type 0 where
      so : Spelt text a b c d e i j k m n
      passed : passes (laid so.tables text) ≡ true

    passed-so : Passed-so
    passed-so = by-parse (parse text) refl
      where
        by-parse : (o : Option Tables) → parse text ≡ o → Passed-so
        by-parse None s =
            let y : (Some (record { sorts = i; fields = j; variables = k; functions = m; members = n })) ≡ None = sym q ∙ p.answers ∙ ap (passing_told text) s in
            let z : ◌≡◌ {A = ℕ} 0 1 = cc in
            absurd (omega arith)
        by-parse (Some t) s =
            by_test (passes (laid t text))
            (λ f.
            let y : (Some (record { sorts = i; fields = j; variables = k; functions = m; members = n })) ≡ sizes (laid t text) = sym q ∙ p.answers ∙ ap (passing_told text) s ∙ ap (λ (b : Bool). cond b (sizes (laid t text)) None) f in
            let u = some-same y in
            record { so = record { tables = t; is = s; held = p.holds t s; size_1 = ap (λ (r : Counts). r.sorts) u; size_2 = ap (λ (r : Counts). r.fields) u; size_3 = ap (λ (r : Counts). r.variables) u; size_4 = ap (λ (r : Counts). r.functions) u; size_5 = ap (λ (r : Counts). r.members) u }; passed = f })
            (λ f.
            let y : (Some (record { sorts = i; fields = j; variables = k; functions = m; members = n })) ≡ None = sym q ∙ p.answers ∙ ap (passing_told text) s ∙ ap (λ (b : Bool). cond b (sizes (laid t text)) None) f in
            let z : ◌≡◌ {A = ℕ} 0 1 = cc in
            absurd (omega arith))

    rows-within : Within i j k m n (record { sorts = a; fields = b; variables = c; functions = d; members = e })
    rows-within = spelt-within text a b c d e i j k m n passed-so.so

    text-parsed : (entry : Buffers) → of_text entry text ≡ fitted entry (record { sorts = take i a; fields = take j b; variables = take k c; functions = take m d; members = take n e; names = [] })
    unfolding of_text judged fitted
    text-parsed entry =
        let s = passed-so in
        ap (of_parsed entry text) s.so.is
        ∙ ap (λ (b : Bool). cond b (fitted entry (laid s.so.tables text)) (refusing entry BadTable)) s.passed
        ∙ ap (fitted entry) (sym (spelt-fronts text a b c d e i j k m n s.so))

-- the answer that the rows tell, and what is stored by it
module _ (text a b c d e : List ℕ) (r : Option Counts) (p : Passing text a b c d e r) (entry : Buffers) (answer : Result Counts Refusal)
    (h : answer ≡ answer_told (length entry.sorts) (length entry.fields) (length entry.variables) (length entry.functions) (length entry.members) r) where
  abbrev rows : Buffers
  rows = record { sorts = a; fields = b; variables = c; functions = d; members = e }

  abbrev told-by : Option Counts → Result Counts Refusal
  told-by o = answer_told (length entry.sorts) (length entry.fields) (length entry.variables) (length entry.functions) (length entry.members) o

  both-within : (i j k m n : ℕ) → answer ≡ Ok (record { sorts = i; fields = j; variables = k; functions = m; members = n }) → Within i j k m n rows × Within i j k m n entry
  both-within i j k m n q = by_rows r refl
    where
      by_rows : (o : Option Counts) → r ≡ o → Within i j k m n rows × Within i j k m n entry
      by_rows None s =
          let y : Err BadTable ≡ (Ok (record { sorts = i; fields = j; variables = k; functions = m; members = n })) = ap told-by (sym s) ∙ sym h ∙ q in
          let z : ◌≡◌ {A = ℕ} 0 1 = cc in
          absurd (omega arith)
      by_rows (Some it) s =
          let u = read-within rows entry it.sorts it.fields it.variables it.functions it.members i j k m n (ap told-by (sym s) ∙ sym h ∙ q) in
          let m₁ : it.sorts ≡ i = cc in
          let m₂ : it.fields ≡ j = cc in
          let m₃ : it.variables ≡ k = cc in
          let m₄ : it.functions ≡ m = cc in
          let m₅ : it.members ≡ n = cc in
          (within_as m₁ m₂ m₃ m₄ m₅ rows (rows-within text a b c d e r p it.sorts it.fields it.variables it.functions it.members s), within_as m₁ m₂ m₃ m₄ m₅ entry u.1)
        where
          within_as : {i′ j′ k′ m′ n′ i j k m n : ℕ} → i′ ≡ i → j′ ≡ j → k′ ≡ k → m′ ≡ m → n′ ≡ n → (l : Buffers) → Within i′ j′ k′ m′ n′ l → Within i j k m n l
          within_as p q s t u l members = record {
            sorts = omega (arith, p, members.sorts);
            fields = omega (arith, q, members.fields);
            variables = omega (arith, s, members.variables);
            functions = omega (arith, t, members.functions);
            members = omega (arith, u, members.members);
          }

  pub text_storable : Storable answer rows entry
  text_storable = record { held = λ i j k m n q. (both-within i j k m n q).0; room = λ i j k m n q. (both-within i j k m n q).1 }

  text-left : of_text entry text ≡ left_by rows entry answer
  text-left = by_rows r refl
    where
      by_rows : (o : Option Counts) → r ≡ o → of_text entry text ≡ left_by rows entry answer
      by_rows None s = text_unparsed text a b c d e r p entry s ∙ ap (left_by rows entry) (ap told-by (sym s) ∙ sym h)
      by_rows (Some it) s =
          text-parsed text a b c d e r p it.sorts it.fields it.variables it.functions it.members s entry
          ∙ fitted-so rows entry it.sorts it.fields it.variables it.functions it.members (rows-within text a b c d e r p it.sorts it.fields it.variables it.functions it.members s)
          ∙ ap (left_by rows entry) (ap told-by (sym s) ∙ sym h)

  pub text-reads : length text ≤ text_limit → (x : Result Counts Refusal) (exit : Buffers) → Stored answer rows entry x exit → Reads text entry x exit
  text-reads k x exit s = reads_short text entry x exit k (subst (λ (l : Left). Leaves l x exit) (sym text-left) (record { answers = s.answers; holds = s.holds }))

pub reads-long : (text : List ℕ) (entry : Buffers) → text_limit < length text → Reads text entry (Err InputTooLong) entry
reads-long text entry h = record {
  long = λ _. leaves-refused entry InputTooLong;
  spelled = λ k t s. absurd (omega arith);
  other = λ k never. absurd (omega arith);
}
