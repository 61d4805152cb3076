-- All lines walked: what is left after each kind, and the words of the tables that they spell.
-- Assumes nothing.
use Rattle.std.proofs.lemmas.Option.{same_Some}
use Rattle.std.proofs.Common.{None, Option, Some}
use mathlib.Core.Path.{◌≡◌, refl, sym, ap, ◌∙◌, subst}
use mathlib.Core.List.{List, [], ◌∷◌, ◌++◌, append_assoc}
use Prim.Native.Nat.{ℕ, zero, suc, ◌+◌, ◌*◌, ◌≤◌, ◌<◌}
use native.Mathlib.Omega.{arith}
use lib.ListN.{length, take, drop, length-append, length-drop}
use lib.Seq.{drop_at, drop-drop}
use Rattle.tables.specs.Sort.{Sort, Tables}
use Rattle.tables.specs.Layout.{stride}
use Rattle.tables.specs.Rules.{row_limit}
use Rattle.tables_text.specs.declared.walk.Walk.{Walk}
use Rattle.tables_text.specs.declared.sorts.SortWalk.{SortWalk}
use Rattle.tables_text.specs.Line.{lines, sort_line, variable_line, function_line, member_line}
use Rattle.tables_text.specs.Words.{sort_words, fields_of, all_sort_words, variable_words, function_words, member_words, table_words, laid}
use Rattle.tables_text.specs.Parse.{span_to, line_feed, sort_in, variable_in, function_in, member_in, Walked, went, line_row, walk, sort_rows, variable_rows, function_rows, member_rows, parse}
use Rattle.tables_text.specs.Parse as Parse
use Rattle.tables_text.specs.Told.{WalkedTo, SortsWalked}
use Rattle.tables_text.specs.Parsing.{Held, parsed_told, Parses}
use Rattle.tables_text.proofs.Spelled.{line-sound, sort-sound, variable-sound, function-sound, member-sound}
use Rattle.tables_text.proofs.Spelled as spelled
use Rattle.tables_text.proofs.SortWalks.{five}
use Rattle.tables_text.proofs.Walks.{walk-stop, walk_none, walk-goes}
use Rattle.tables_text.specs.declared.parse.Counts.{Counts}

-- the lines of the rows, and then what is left
module _ {A : Type 0} (row : List ℕ → Option A) (write : A → List ℕ) (sound : (s : List ℕ) (x : A) → row s ≡ Some x → write x ≡ spelled.ended s) where
  pub walk-sound : (most : ℕ) (s : List ℕ) → s ≡ lines write (walk row most s).rows ++ (walk row most s).rest
  unfolding lines
  walk-sound zero s = ap (λ (w : Walked A). lines write w.rows ++ w.rest) (sym (walk_none row s))
  walk-sound (suc most) s = by_row (λ l. walk-sound most l) (line_row row s) refl
    where
      by_row : ((l : List ℕ) → l ≡ lines write (walk row most l).rows ++ (walk row most l).rest) → (o : Option A) → line_row row s ≡ o → s ≡ lines write (walk row (suc most) s).rows ++ (walk row (suc most) s).rest
      by_row again None e = ap (λ (w : Walked A). lines write w.rows ++ w.rest) (sym (walk-stop row (suc most) s e))
      by_row again (Some x) e =
          let d : drop (length (write x)) s ≡ drop (suc (span_to line_feed s)) s =
          ap (drop (length (write x))) (line-sound row write sound s x e) ∙ drop_at (write x) (drop (suc (span_to line_feed s)) s) (length (write x)) refl in
          line-sound row write sound s x e
          ∙ ap (λ (l : List ℕ). write x ++ l) (sym d ∙ again (drop (length (write x)) s))
          ∙ sym (append_assoc (write x) (lines write (walk row most (drop (length (write x)) s)).rows) (walk row most (drop (length (write x)) s)).rest)
          ∙ ap (λ (w : Walked A). lines write w.rows ++ w.rest) (sym (walk-goes row write sound most s x e))

  pub walk-left : (most : ℕ) (s : List ℕ) → drop (length (lines write (walk row most s).rows)) s ≡ (walk row most s).rest
  walk-left most s =
      ap (drop (length (lines write (walk row most s).rows))) (walk-sound most s)
      ∙ drop_at (lines write (walk row most s).rows) (walk row most s).rest (length (lines write (walk row most s).rows)) refl

  pub walk-long : (most : ℕ) (s : List ℕ) → length (lines write (walk row most s).rows) + length (walk row most s).rest ≡ length s
  walk-long most s = sym (ap length (walk-sound most s) ∙ length-append (lines write (walk row most s).rows) (walk row most s).rest)

walk-few : {A : Type 0} (row : List ℕ → Option A) (most : ℕ) (s : List ℕ) → length (walk row most s).rows ≤ most
unfolding walk
walk-few row zero s = omega arith
walk-few {A} row (suc most) s = by_row (line_row row s) (walk row most (drop (suc (span_to line_feed s)) s)) (walk-few row most (drop (suc (span_to line_feed s)) s))
  where
    by_row : (o : Option A) (w : Walked A) → length w.rows ≤ most → length (went s o w).rows ≤ suc most
    by_row None w h = omega arith
    by_row (Some x) w h = omega arith

pub rows_few : {A : Type 0} (row : List ℕ → Option A) (write : A → List ℕ) (words : ℕ → A → List ℕ) (start : ℕ) (s exit : List ℕ) (r : Walk)
    → WalkedTo write words start (walk row row_limit s) exit r → r.rows ≤ row_limit
rows_few row write words start s exit r w = omega (arith, w.counts, walk-few row row_limit s)

pub sorts-few : (s a b : List ℕ) (r : SortWalk) → SortsWalked (walk sort_in row_limit s) a b r → r.rows ≤ row_limit
sorts-few s a b r w = omega (arith, w.counts, walk-few sort_in row_limit s)

pub table-long : {A : Type 0} (words : ℕ → A → List ℕ) (write : A → List ℕ) → ((at : ℕ) (x : A) → length (words at x) ≡ stride)
    → (at : ℕ) (xs : List A) → length (table_words words write at xs) ≡ length xs * stride
unfolding table_words
table-long words write f at [] = refl
table-long words write f at (x ∷ xs) =
    omega (arith, length-append (words at x) (table_words words write (at + length (write x)) xs), f at x, table-long words write f (at + length (write x)) xs)

pub sorts-long : (at before : ℕ) (xs : List Sort) → length (all_sort_words at before xs) ≡ length xs * stride
unfolding all_sort_words
sorts-long at before [] = refl
sorts-long at before (x ∷ xs) =
    omega (
      arith,
      length-append (sort_words at before x) (all_sort_words (at + length (sort_line x)) (before + length (fields_of x)) xs),
      five at before x,
      sorts-long (at + length (sort_line x)) (before + length (fields_of x)) xs,
    )

-- a kind walked from a place on, and what its room then holds
module _ {A : Type 0} (row : List ℕ → Option A) (write : A → List ℕ) (words : ℕ → A → List ℕ) (sound : (s : List ℕ) (x : A) → row s ≡ Some x → write x ≡ spelled.ended s)
    (text : List ℕ) (start : ℕ) (le : start ≤ length text) (exit : List ℕ) (r : Walk) (w : WalkedTo write words start (walk row row_limit (drop start text)) exit r) where
  pub next-within : r.at ≤ length text
  next-within = omega (arith, w.ends, walk-long row write sound row_limit (drop start text), length-drop start text, le)

  pub next-left : drop r.at text ≡ (walk row row_limit (drop start text)).rest
  next-left =
      ap (λ (n : ℕ). drop n text) w.ends
      ∙ sym (drop-drop (length (lines write (walk row row_limit (drop start text)).rows)) start text)
      ∙ walk-left row write sound row_limit (drop start text)

as_pure : {A : Type 0} (row : List ℕ → Option A) (write : A → List ℕ) (words : ℕ → A → List ℕ) (start from : ℕ) (s u : List ℕ) (exit : List ℕ) (r : Walk) → start ≡ from → s ≡ u
    → WalkedTo write words start (walk row row_limit s) exit r → WalkedTo write words from (walk row row_limit u) exit r
as_pure row write words start from s u exit r p q w =
    subst (λ (i : ℕ). WalkedTo write words i (walk row row_limit u) exit r) p (subst (λ (l : List ℕ). WalkedTo write words start (walk row row_limit l) exit r) q w)

module _ {A : Type 0} (write : A → List ℕ) (words : ℕ → A → List ℕ) (f : (at : ℕ) (x : A) → length (words at x) ≡ stride) (start : ℕ) (v : Walked A) (exit : List ℕ) (r : Walk)
    (w : WalkedTo write words start v exit r) where
  table-size : r.rows * stride ≡ length (table_words words write start v.rows)
  table-size = omega (arith, w.counts, table-long words write f start v.rows)

  table-held : take (length (table_words words write start v.rows)) exit ≡ table_words words write start v.rows
  table-held = ap (λ (n : ℕ). take n exit) (sym table-size) ∙ w.holds

module _ (text a b : List ℕ) (first : SortWalk) (s₁ : SortsWalked (sort_rows text) a b first) where
  pub within_1 : first.at ≤ length text
  within_1 = omega (arith, s₁.ends, walk-long sort_in sort_line sort-sound row_limit text)

  left_1 : drop first.at text ≡ (sort_rows text).rest
  left_1 = ap (λ (n : ℕ). drop n text) s₁.ends ∙ walk-left sort_in sort_line sort-sound row_limit text

  module _ (c : List ℕ) (second : Walk) (s₂ : WalkedTo variable_line variable_words first.at (walk variable_in row_limit (drop first.at text)) c second) where
    pub within_2 : second.at ≤ length text
    within_2 = next-within variable_in variable_line variable_words variable-sound text first.at within_1 c second s₂

    left_2 : drop second.at text ≡ (variable_rows text).rest
    left_2 = next-left variable_in variable_line variable_words variable-sound text first.at within_1 c second s₂ ∙ ap (λ (l : List ℕ). (walk variable_in row_limit l).rest) left_1

    module _ (d : List ℕ) (third : Walk) (s₃ : WalkedTo function_line function_words second.at (walk function_in row_limit (drop second.at text)) d third) where
      pub within_3 : third.at ≤ length text
      within_3 = next-within function_in function_line function_words function-sound text second.at within_2 d third s₃

      left_3 : drop third.at text ≡ (function_rows text).rest
      left_3 = next-left function_in function_line function_words function-sound text second.at within_2 d third s₃ ∙ ap (λ (l : List ℕ). (walk function_in row_limit l).rest) left_2

      module _ (e : List ℕ) (last : Walk) (s₄ : WalkedTo member_line member_words third.at (walk member_in row_limit (drop third.at text)) e last) where
        left_4 : drop last.at text ≡ (member_rows text).rest
        left_4 = next-left member_in member_line member_words member-sound text third.at within_3 e last s₄ ∙ ap (λ (l : List ℕ). (walk member_in row_limit l).rest) left_3

        unended : {A : Type 0} (s : List ℕ) (x : A) → 0 < length s → Parse.ended s x ≡ None
        unended [] x h = absurd (omega arith)
        unended (y ∷ ys) x h = refl

        ended_so : {A : Type 0} (s : List ℕ) (x : A) → length s ≡ 0 → Parse.ended s x ≡ Some x
        ended_so [] x h = refl
        ended_so (y ∷ ys) x h = absurd (omega arith)

        pub parses_other : last.at < length text → Parses text a b c d e None
        unfolding parse
        parses_other h =
            let n : parse text ≡ None = unended (member_rows text).rest _ (omega (arith, ap length left_4, length-drop last.at text)) in
            record { answers = ap (parsed_told text) (sym n); holds = λ t q. let y : None ≡ Some t = sym n ∙ q in let z : ◌≡◌ {A = ℕ} 0 1 = cc in absurd (omega arith) }

        abbrev spelt : Tables
        spelt = record { sorts = (sort_rows text).rows; variables = (variable_rows text).rows; functions = (function_rows text).rows; members = (member_rows text).rows }

        pub parses_rows : length text ≤ last.at → Parses text a b c d e (Some (record { sorts = first.rows * stride; fields = first.fields; variables = second.rows * stride; functions = third.rows * stride; members = last.rows * stride }))
        unfolding parse laid
        parses_rows h =
            let y : parse text ≡ Some spelt = ended_so (member_rows text).rest _ (omega (arith, ap length left_4, length-drop last.at text)) in
            let v = as_pure variable_in variable_line variable_words _ _ _ _ c second s₁.ends left_1 s₂ in
            let f = as_pure function_in function_line function_words _ _ _ _ d third v.ends left_2 s₃ in
            let m = as_pure member_in member_line member_words _ _ _ _ e last f.ends left_3 s₄ in
            let k : first.rows * stride ≡ length (all_sort_words 0 0 (sort_rows text).rows) = omega (arith, s₁.counts, sorts-long 0 0 (sort_rows text).rows) in
            let held : Held (laid spelt text) a b c d e = record {
              sorts = ap (λ (n : ℕ). take n a) (sym k) ∙ s₁.holds;
              fields = ap (λ (n : ℕ). take n b) (sym s₁.sums) ∙ s₁.lists;
              variables = table-held variable_line variable_words (λ at x. refl) _ _ c second v;
              functions = table-held function_line function_words (λ at x. refl) _ _ d third f;
              members = table-held member_line member_words (λ at x. refl) _ _ e last m;
            } in
            record {
              answers =
                  five-equal k s₁.sums (table-size variable_line variable_words (λ at x. refl) _ _ c second v) (table-size function_line function_words (λ at x. refl) _ _ d third f)
                  (table-size member_line member_words (λ at x. refl) _ _ e last m)
                  ∙ ap (parsed_told text) (sym y);
              holds = λ t q. subst (λ (z : Tables). Held (laid z text) a b c d e) (same_Some _ _ (sym y ∙ q)) held;
            }
          where
            five-equal : {a b c d e i j k l m : ℕ} → a ≡ i → b ≡ j → c ≡ k → d ≡ l → e ≡ m → ◌≡◌ {A = Option Counts} (Some (record { sorts = a; fields = b; variables = c; functions = d; members = e })) (Some (record { sorts = i; fields = j; variables = k; functions = l; members = m }))
            five-equal p q r s t = cc
