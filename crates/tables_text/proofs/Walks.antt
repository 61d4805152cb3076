-- Rows written one after the other: the rows that are still to be read go on from the words that stand.
-- Assumes nothing.
use Rattle.std.proofs.Common.{None, Option, Some}
use mathlib.Core.Path.{◌≡◌, refl, sym, ap, ap₂, ◌∙◌, subst}
use mathlib.Core.List.{List, [], ◌∷◌, ◌++◌, append_assoc, append-nil}
use Prim.Native.Nat.{ℕ, zero, suc, ◌+◌, ◌-◌, ◌*◌, ◌≤◌, ◌<◌}
use native.Mathlib.Omega.{arith}
use lib.ListN.{length, take, drop, length-append, length-drop}
use lib.Seq.{sets, length-sets, drop_at, drop-drop}
use Rattle.ground.specs.Bytes.{bytes}
use Rattle.ground.specs.Lists.{joined}
use Rattle.ground.specs.Options.{over}
use Rattle.ground.proofs.Lists.{take-sets}
use Rattle.decimals.specs.Decimal.{decimal}
use Rattle.tables.specs.Sort.{Variable, Function, Member}
use Rattle.tables.specs.Layout.{stride}
use Rattle.tables.specs.Rules.{row_limit}
use Rattle.tables_text.specs.Line.{lines, member_line}
use Rattle.tables_text.specs.Words.{row_words, variable_words, function_words, member_words, table_words}
use Rattle.tables_text.specs.Parse.{span_to, line_feed, Cut, member_in, Walked, stopped, went, line_row, walk}
use Rattle.tables_text.specs.Told.{variable_told, function_told, member_told, line_told, line_held, Lined, WalkedTo}
use Rattle.tables_text.proofs.Cuts.{word-long, place_none, place-some}
use Rattle.tables_text.proofs.Spelled.{ended, line-sound, member-sound}
use Rattle.tables_text.specs.declared.row.VariableLine.{VariableLine}
use Rattle.tables_text.specs.declared.row.FunctionLine.{FunctionLine}
use Rattle.tables_text.specs.declared.row.MemberLine.{MemberLine}
use Rattle.ground.proofs.Options.{some-same}

-- what was told, of what was found
told-variable : (o : Option Variable) (name sort : ℕ) → (Some (record { name = name; sort = sort })) ≡ variable_told o → (v : Variable) × (o ≡ Some v) × (length v.name ≡ name) × (v.sort ≡ sort)
told-variable None name sort h = let z : ◌≡◌ {A = ℕ} 0 1 = cc in absurd (omega arith)
told-variable (Some v) name sort h = let e = some-same h in (v, refl, ap (λ (r : VariableLine). r.name) (sym e), ap (λ (r : VariableLine). r.sort) (sym e))

told-function : (o : Option Function) (name argument result : ℕ) → (Some (record { name = name; argument = argument; result = result })) ≡ function_told o
    → (f : Function) × (o ≡ Some f) × (length f.name ≡ name) × (f.argument ≡ argument) × (f.result ≡ result)
told-function None name argument result h = let z : ◌≡◌ {A = ℕ} 0 1 = cc in absurd (omega arith)
told-function (Some f) name argument result h = let e = some-same h in (f, refl, ap (λ (r : FunctionLine). r.name) (sym e), ap (λ (r : FunctionLine). r.argument) (sym e), ap (λ (r : FunctionLine). r.result) (sym e))

told-member : (o : Option Member) (name entity size : ℕ) → (Some (record { name = name; entity = entity; text = size })) ≡ member_told o
    → (m : Member) × (o ≡ Some m) × (length m.name ≡ name) × (m.entity ≡ entity) × (length m.text ≡ size)
told-member None name entity size h = let z : ◌≡◌ {A = ℕ} 0 1 = cc in absurd (omega arith)
told-member (Some m) name entity size h = let e = some-same h in (m, refl, ap (λ (r : MemberLine). r.name) (sym e), ap (λ (r : MemberLine). r.entity) (sym e), ap (λ (r : MemberLine). r.text) (sym e))

pub told-no-variable : (o : Option Variable) → None ≡ variable_told o → o ≡ None
told-no-variable None h = refl
told-no-variable (Some v) h = let z : ◌≡◌ {A = ℕ} 0 1 = cc in absurd (omega arith)

pub told-no-function : (o : Option Function) → None ≡ function_told o → o ≡ None
told-no-function None h = refl
told-no-function (Some f) h = let z : ◌≡◌ {A = ℕ} 0 1 = cc in absurd (omega arith)

pub told-no-member : (o : Option Member) → None ≡ member_told o → o ≡ None
told-no-member None h = refl
told-no-member (Some m) h = let z : ◌≡◌ {A = ℕ} 0 1 = cc in absurd (omega arith)

-- the row and its words
pub row-variable : (at name sort : ℕ) (o : Option Variable) → (Some (record { name = name; sort = sort })) ≡ variable_told o
    → (v : Variable) × (o ≡ Some v) × (row_words (at + 4) name sort 0 0 ≡ variable_words at v)
row-variable at name sort o h = let t = told-variable o name sort h in (t.0, t.1, ap₂ (λ (x y : ℕ). row_words (at + 4) x y 0 0) (sym t.2) (sym t.3))

pub row-function : (at name argument result : ℕ) (o : Option Function) → (Some (record { name = name; argument = argument; result = result })) ≡ function_told o
    → (f : Function) × (o ≡ Some f) × (row_words (at + 4) name argument result 0 ≡ function_words at f)
row-function at name argument result o h =
    let t = told-function o name argument result h in
    (t.0, t.1, ap₂ (λ (x y : ℕ). row_words (at + 4) x y result 0) (sym t.2) (sym t.3) ∙ ap (λ (z : ℕ). row_words (at + 4) (length t.0.name) t.0.argument z 0) (sym t.4))

member-long : (m : Member) → length (member_line m) ≡ 5 + length m.name + 1 + length (decimal m.entity) + 1 + length m.text + 1
unfolding joined
member-long m =
    omega (
      arith,
      length-append (m.name ++ (bytes " " ++ (decimal m.entity ++ (bytes " " ++ m.text)))) (bytes "\n"),
      length-append m.name (bytes " " ++ (decimal m.entity ++ (bytes " " ++ m.text))),
      length-append (decimal m.entity) (bytes " " ++ m.text),
    )

row-member : (at name entity size : ℕ) (s : List ℕ) → (Some (record { name = name; entity = entity; text = size })) ≡ member_told (member_in s)
    → (m : Member) × (member_in s ≡ Some m) × (row_words (at + 5) name entity (at + length s - size) size ≡ member_words at m) × (size ≤ length s)
row-member at name entity size s h =
    let t = told-member (member_in s) name entity size h in
    let m = t.0 in
    let l : length (member_line m) ≡ length s + 1 = ap length (member-sound s m t.1) ∙ length-append s (line_feed ∷ []) in
    let k = member-long m in
    let p : at + length s - size ≡ at + 5 + length m.name + 1 + length (decimal m.entity) + 1 = omega (arith, l, k, t.4) in (
      m,
      t.1,
      ap₂ (λ (x y : ℕ). row_words (at + 5) x y (at + length s - size) size) (sym t.2) (sym t.3)
          ∙ ap₂ (λ (x y : ℕ). row_words (at + 5) (length m.name) m.entity x y) p (sym t.4),
      omega (arith, l, k, t.4),
    )

-- the text stands at the line's end
pub row-member-at : (text : List ℕ) (at end : ℕ) → at ≤ length text → end ≡ at + span_to line_feed (drop at text) → (name entity size : ℕ)
    → (Some (record { name = name; entity = entity; text = size })) ≡ member_told (member_in (take (end - at) (drop at text)))
    → (m : Member) × (member_in (take (end - at) (drop at text)) ≡ Some m) × (row_words (at + 5) name entity (end - size) size ≡ member_words at m) × (size ≤ end)
row-member-at text at end le e name entity size h =
    let t = row-member at name entity size (take (end - at) (drop at text)) h in
    let l : at + length (take (end - at) (drop at text)) ≡ end = omega (arith, word-long line_feed text at end le e, e) in
    (t.0, t.1, ap (λ (n : ℕ). row_words (at + 5) name entity (n - size) size) (sym l) ∙ t.2, omega (arith, l, t.3))

-- the walk at a line
module _ {A : Type 0} (row : List ℕ → Option A) where
  pub walk-stop : (most : ℕ) (s : List ℕ) → line_row row s ≡ None → walk row most s ≡ stopped s
  unfolding walk
  walk-stop zero s q = refl
  walk-stop (suc most) s q = ap (λ (o : Option A). went s o (walk row most (drop (suc (span_to line_feed s)) s))) q

  pub walk_none : (s : List ℕ) → walk row 0 s ≡ stopped s
  unfolding walk
  walk_none s = refl

  module _ (write : A → List ℕ) (sound : (s : List ℕ) (x : A) → row s ≡ Some x → write x ≡ ended s) where
    pub walk-goes : (most : ℕ) (s : List ℕ) (x : A) → line_row row s ≡ Some x
        → walk row (suc most) s ≡ record { rows = x ∷ (walk row most (drop (length (write x)) s)).rows; rest = (walk row most (drop (length (write x)) s)).rest }
    unfolding walk
    walk-goes most s x q =
        let d : drop (suc (span_to line_feed s)) s ≡ drop (length (write x)) s =
        sym (drop_at (write x) (drop (suc (span_to line_feed s)) s) (length (write x)) refl) ∙ ap (drop (length (write x))) (sym (line-sound row write sound s x q)) in
        ap₂ (λ (o : Option A) (l : List ℕ). went s o (walk row most l)) q d

    pub line-within : (text : List ℕ) (at : ℕ) (x : A) → at ≤ length text → line_row row (drop at text) ≡ Some x → at + length (write x) ≤ length text
    line-within text at x le q =
        omega (arith, ap length (line-sound row write sound (drop at text) x q), length-append (write x) (drop (suc (span_to line_feed (drop at text))) (drop at text)), length-drop at text, le)

module _ {A : Type 0} (row : List ℕ → Option A) (write : A → List ℕ) (words : ℕ → A → List ℕ) (sound : (s : List ℕ) (x : A) → row s ≡ Some x → write x ≡ ended s) where
  -- one line
  module _ (text : List ℕ) (at end : ℕ) (le : at ≤ length text) (e : end ≡ at + span_to line_feed (drop at text)) (number : ℕ) (table : List ℕ) where
    pub line-past : length text ≤ end → line_row row (drop at text) ≡ None
    unfolding line_row
    line-past h = ap (λ (o : Option Cut). over o (λ c. row c.word)) (place_none line_feed text at end le e h)

    pub line-here : end < length text → line_row row (drop at text) ≡ row (take (end - at) (drop at text))
    unfolding line_row
    line-here h = ap (λ (o : Option Cut). over o (λ c. row c.word)) (place-some line_feed text at end le e h)

    pub line-ends : (x : A) → row (take (end - at) (drop at text)) ≡ Some x → end + 1 ≡ at + length (write x)
    line-ends x q =
        omega (arith, ap length (sound (take (end - at) (drop at text)) x q), length-append (take (end - at) (drop at text)) (line_feed ∷ []), word-long line_feed text at end le e, e)

    lined-none : line_row row (drop at text) ≡ None → Lined write words at number (line_row row (drop at text)) table table None
    lined-none q = record { answers = ap (line_told write words at) (sym q); holds = ap (line_held write words at number table) (sym q) }

    pub lined-past : length text ≤ end → Lined write words at number (line_row row (drop at text)) table table None
    lined-past h = lined-none (line-past h)

    pub lined-other : end < length text → row (take (end - at) (drop at text)) ≡ None → Lined write words at number (line_row row (drop at text)) table table None
    lined-other h q = lined-none (line-here h ∙ q)

    pub lined-row : end < length text → (x : A) → row (take (end - at) (drop at text)) ≡ Some x → (exit : List ℕ) → exit ≡ sets table (number * stride) (words at x)
        → Lined write words at number (line_row row (drop at text)) table exit (Some (end + 1))
    lined-row h x q exit held =
        let f : line_row row (drop at text) ≡ Some x = line-here h ∙ q in
        record { answers = ap Some (line-ends x q) ∙ ap (line_told write words at) (sym f); holds = held ∙ ap (line_held write words at number table) (sym f) }

  told-next : (at next : ℕ) (o : Option A) → Some next ≡ line_told write words at o → (x : A) × (o ≡ Some x) × (next ≡ at + length (write x))
  told-next at next None h = let z : ◌≡◌ {A = ℕ} 0 1 = cc in absurd (omega arith)
  told-next at next (Some x) h = (x, refl, cc)

  told-stop : (at : ℕ) (o : Option A) → None ≡ line_told write words at o → o ≡ None
  told-stop at None h = refl
  told-stop at (Some x) h = let z : ◌≡◌ {A = ℕ} 0 1 = cc in absurd (omega arith)

  pub record Walking (text entry : List ℕ) (start at number : ℕ) (table : List ℕ) : Type 0 where
    pub long : length table ≡ length entry
    pub within : at ≤ length text
    pub few : number ≤ row_limit
    pub counts : number + length (walk row (row_limit - number) (drop at text)).rows ≡ length (walk row row_limit (drop start text)).rows
    pub ends : at + length (lines write (walk row (row_limit - number) (drop at text)).rows) ≡ start + length (lines write (walk row row_limit (drop start text)).rows)
    pub holds : take (number * stride) table ++ table_words words write at (walk row (row_limit - number) (drop at text)).rows ≡ table_words words write start (walk row row_limit (drop start text)).rows

  pub walking_start : (text entry : List ℕ) (start : ℕ) → start ≤ length text → Walking text entry start start 0 entry
  walking_start text entry start le = record { long = refl; within = le; few = omega arith; counts = omega arith; ends = refl; holds = refl }

  module _ (five : (at : ℕ) (x : A) → length (words at x) ≡ stride) (text entry : List ℕ) (start at number : ℕ) (table : List ℕ) (so : Walking text entry start at number table)
      (room : row_limit * stride ≤ length entry) where
    walking_end : walk row (row_limit - number) (drop at text) ≡ stopped (drop at text) → WalkedTo write words start (walk row row_limit (drop start text)) table (record { at = at; rows = number })
    unfolding lines table_words
    walking_end q =
        let r : (walk row (row_limit - number) (drop at text)).rows ≡ [] = ap (λ (w : Walked A). w.rows) q in
        record {
          counts = omega (arith, so.counts, ap length r);
          ends = omega (arith, so.ends, ap (λ (l : List A). length (lines write l)) r);
          holds = sym (append-nil (take (number * stride) table)) ∙ ap (λ (l : List A). take (number * stride) table ++ table_words words write at l) (sym r) ∙ so.holds;
        }

    pub walking_full : row_limit ≤ number → WalkedTo write words start (walk row row_limit (drop start text)) table (record { at = at; rows = row_limit })
    walking_full h =
        let z : row_limit - number ≡ 0 = omega arith in
        let e : number ≡ row_limit = omega (arith, so.few) in
        subst (λ (n : ℕ). WalkedTo write words start (walk row row_limit (drop start text)) table (record { at = at; rows = n })) e
        (walking_end (ap (λ (k : ℕ). walk row k (drop at text)) z ∙ walk_none row (drop at text)))

    module _ (less : number < row_limit) where
      pub walking_room : number * stride + stride ≤ length table
      walking_room = omega (arith, so.long, room)

      module _ (exit : List ℕ) (r : Option ℕ) (l : Lined write words at number (line_row row (drop at text)) table exit r) where
        pub walking_stop : r ≡ None → WalkedTo write words start (walk row row_limit (drop start text)) exit (record { at = at; rows = number })
        walking_stop q =
            let f : line_row row (drop at text) ≡ None = told-stop at (line_row row (drop at text)) (sym q ∙ l.answers) in
            let x : exit ≡ table = l.holds ∙ ap (line_held write words at number table) f in
            subst (λ (t : List ℕ). WalkedTo write words start (walk row row_limit (drop start text)) t (record { at = at; rows = number })) (sym x)
            (walking_end (walk-stop row (row_limit - number) (drop at text) f))

        pub walking_long : length exit ≡ length entry
        walking_long = ap length l.holds ∙ held (line_row row (drop at text)) ∙ so.long
          where
            held : (o : Option A) → length (line_held write words at number table o) ≡ length table
            held None = refl
            held (Some x) = length-sets table (number * stride) (words at x)

        module _ (next : ℕ) (q : r ≡ Some next) where
          pub walking_step : Walking text entry start next (number + 1) exit
          unfolding lines table_words
          walking_step =
              let t = told-next at next (line_row row (drop at text)) (sym q ∙ l.answers) in
              let x = t.0 in
              let f : line_row row (drop at text) ≡ Some x = t.1 in
              let n : next ≡ at + length (write x) = t.2 in
              let k : row_limit - number ≡ suc (row_limit - (number + 1)) = omega arith in
              let d : drop (length (write x)) (drop at text) ≡ drop next text = drop-drop (length (write x)) at text ∙ ap (λ (i : ℕ). drop i text) (sym n) in
              let w : (walk row (row_limit - number) (drop at text)).rows ≡ x ∷ (walk row (row_limit - (number + 1)) (drop next text)).rows =
              ap (λ (i : ℕ). (walk row i (drop at text)).rows) k
              ∙ ap (λ (v : Walked A). v.rows) (walk-goes row write sound (row_limit - (number + 1)) (drop at text) x f)
              ∙ ap (λ (s : List ℕ). x ∷ (walk row (row_limit - (number + 1)) s).rows) d in
              let held : exit ≡ sets table (number * stride) (words at x) = l.holds ∙ ap (line_held write words at number table) f in
              let m : (number + 1) * stride ≡ number * stride + length (words at x) = omega (arith, five at x) in
              record {
                long = walking_long;
                within = omega (arith, n, line-within row write sound text at x so.within f);
                few = omega arith;
                counts = omega (arith, so.counts, ap length w);
                ends = omega (arith, so.ends, ap (λ (v : List A). length (lines write v)) w, n, length-append (write x) (lines write (walk row (row_limit - (number + 1)) (drop next text)).rows));
                holds =
                    ap₂ (λ (s : List ℕ) (i : ℕ). s ++ table_words words write i (walk row (row_limit - (number + 1)) (drop next text)).rows)
                    (ap (take ((number + 1) * stride)) held ∙ take-sets (words at x) table (number * stride) ((number + 1) * stride) m (omega (arith, walking_room))) n
                    ∙ append_assoc (take (number * stride) table) (words at x) (table_words words write (at + length (write x)) (walk row (row_limit - (number + 1)) (drop next text)).rows)
                    ∙ ap (λ (v : List A). take (number * stride) table ++ table_words words write at v) (sym w)
                    ∙ so.holds;
              }
