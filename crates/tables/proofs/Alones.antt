-- Rows that no later row repeats, found by the searches.
-- Assumes nothing.
use Rattle.std.proofs.Common.{Option}
use mathlib.Core.Path.{◌≡◌, sym, ap, ◌∙◌}
use mathlib.Core.Bool.{Bool, true, false, not}
use mathlib.Core.List.{List, [], ◌∷◌}
use Prim.Native.Nat.{ℕ, ◌+◌, ◌-◌}
use Rattle.arena.specs.Text.{same_text}
use Rattle.tables.specs.Layout.{Lent, count, word, name_at, sort_at}
use Rattle.tables.specs.Rules.{identity, same_sort}
use Rattle.tables.specs.Search.{is_row, first_row}
use Rattle.tables.specs.View.{is_kind, has_name, is_named}
use Rattle.tables.specs.Right.{lent_sorts, alone, alone_sort}
use Rattle.tables.proofs.Searches.{first-same}
use Rattle.tables.proofs.Sorts.{key-at, name-at, identity-named, identity-plain}

module _ (names ws : List ℕ) (i : ℕ) (name : List ℕ) (found : Option ℕ) (r : Bool) where
  pub alone-name : name ≡ name_at names ws i → found ≡ first_row (λ j. same_text name (name_at names ws j)) (i + 1) (count ws - (i + 1)) → r ≡ is_row found → not r ≡ alone names ws i
  alone-name e g h =
      ap not (h ∙ ap is_row (g ∙ ap (λ (s : List ℕ). first_row (λ j. same_text s (name_at names ws j)) (i + 1) (count ws - (i + 1))) e))

  abbrev lent_here : Lent
  lent_here = lent_sorts ws [] names

  module _ (b : Bool) (k : ℕ) (e : k ≡ word ws i 2) (d : b ≡ has_name k) where
    kind-here : b ≡ has_name (word ws i 2)
    kind-here = d ∙ ap has_name e

    pub alone-named : b ≡ true → name ≡ name_at names ws i → found ≡ first_row (is_named ws names name) (i + 1) (count ws - (i + 1)) → r ≡ is_row found → not r ≡ alone_sort ws names i
    alone-named t q g h =
        let p : identity (sort_at lent_here i) ≡ 9 ∷ name_at names ws i = identity-named lent_here i (sym kind-here ∙ t) in
        ap not
        (h ∙ ap is_row
        (g ∙ first-same (is_named ws names name) (λ j. same_sort (sort_at lent_here i) (sort_at lent_here j))
        (λ j.
        name-at lent_here name j
        ∙ ap (λ (s : List ℕ). same_text (9 ∷ s) (identity (sort_at lent_here j))) q
        ∙ ap (λ (s : List ℕ). same_text s (identity (sort_at lent_here j))) (sym p))
        (i + 1) (count ws - (i + 1))))

    pub alone-kind : b ≡ false → (n : ℕ) → n ≡ word ws i 3 → found ≡ first_row (is_kind ws k n) (i + 1) (count ws - (i + 1)) → r ≡ is_row found → not r ≡ alone_sort ws names i
    alone-kind t n q g h =
        let z : has_name (word ws i 2) ≡ false = sym kind-here ∙ t in
        ap not
        (h ∙ ap is_row
        (g
        ∙ ap (λ (x : ℕ). first_row (is_kind ws x n) (i + 1) (count ws - (i + 1))) e
        ∙ ap (λ (x : ℕ). first_row (is_kind ws (word ws i 2) x) (i + 1) (count ws - (i + 1))) q
        ∙ first-same (is_kind ws (word ws i 2) (word ws i 3)) (λ j. same_sort (sort_at lent_here i) (sort_at lent_here j))
        (λ j.
        key-at lent_here (word ws i 2) (word ws i 3) z j
        ∙ ap (λ (s : List ℕ). same_text s (identity (sort_at lent_here j))) (sym (identity-plain lent_here i z)))
        (i + 1) (count ws - (i + 1))))
