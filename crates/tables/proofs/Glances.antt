-- A row whose name has another length than the one asked for, or another last byte, does not have it.
-- Assumes nothing.
use mathlib.Core.Path.{◌≡◌, sym, ap, ◌∙◌}
use mathlib.Core.Bool.{Bool, true, false, not, true≢false}
use mathlib.Core.List.{List}
use Prim.Native.Nat.{ℕ, ◌+◌, ◌-◌, ◌≤◌, ◌<◌}
use native.Mathlib.Omega.{arith}
use lib.Dec.{leb, eqb}
use lib.ListN.{length, get_or, take, drop, length-drop}
use lib.Seq.{get_or-take, get_or-drop, length-take-le}
use borrow.Author.Tests.{eqb-false, leb-true, not-false}
use Rattle.ground.proofs.Tests.{by_test, and-false}
use Rattle.arena.specs.Text.{same_text}
use Rattle.arena.proofs.Texts.{same_lengths, same-equal}
use Rattle.tables.specs.Layout.{word, name_at}
use Rattle.tables.specs.View.{has_name, is_named}
use Rattle.tables.specs.Lookup.{MayBeNamed}

-- so many bytes that are all there
module _ (names name : List ℕ) (first size : ℕ) (within : first + size ≤ length names) where
  abbrev here : List ℕ
  here = take size (drop first names)

  here-size : length here ≡ size
  here-size =
      let e : length (drop first names) ≡ length names - first = length-drop first names in
      length-take-le size (drop first names) (omega (arith, e))

  other-size : (size ≡ length name → ⊥) → same_text name here ≡ false
  other-size h = sym (same_lengths name here (λ e. h (sym (e ∙ here-size))))

  other_last : (k : ℕ) → k < size → (get_or names (first + k) 0 ≡ get_or name k 0 → ⊥) → same_text name here ≡ false
  other_last k less h =
      by_test (same_text name here)
      (λ t.
      absurd
      (h
      (sym
      (ap (λ (s : List ℕ). get_or s k 0) (same-equal name here t)
      ∙ get_or-take size (drop first names) k 0 less
      ∙ get_or-drop first names k 0))))
      (λ t. t)

pub may_be : (ws names name : List ℕ) (i : ℕ) → MayBeNamed ws names name i true
may_be ws names name i h = absurd (true≢false h)

-- nor is it a sort of that name
pub other-sort : (ws names name : List ℕ) (i : ℕ) → same_text name (name_at names ws i) ≡ false → is_named ws names name i ≡ false
other-sort ws names name i h = rw h (and-false (has_name (word ws i 2)))

-- as the code looks at row i
module _ (ws names name : List ℕ) (i first size : ℕ) (e : first ≡ word ws i 0) (g : size ≡ word ws i 1) where
  carried : same_text name (take size (drop first names)) ≡ false → same_text name (name_at names ws i) ≡ false
  carried h = rw (sym e, sym g) h

  module _ (r : Bool) (inside : r ≡ leb (first + size) (length names)) (yes : not r ≡ false) where
    all_there : first + size ≤ length names
    all_there = leb-true (first + size) (length names) (sym inside ∙ not-false r yes)

    pub not-long : (size ≡ length name → ⊥) → MayBeNamed ws names name i false
    not-long h z = carried (other-size names name first size all_there h)

    module _ (same : size ≡ length name) (nonzero : size ≡ 0 → ⊥) (k : ℕ) (last : k ≡ length name - 1) where
      pub last-there : first + k < length names
      last-there = omega (arith, all_there, same, nonzero, last)

      pub last-tells : MayBeNamed ws names name i (eqb (get_or names (first + k) 0) (get_or name k 0))
      last-tells z =
          carried
          (other_last names name first size all_there k (omega (arith, same, nonzero, last))
          (eqb-false (get_or names (first + k) 0) (get_or name k 0) z))
