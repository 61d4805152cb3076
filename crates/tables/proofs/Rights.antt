-- One row against the form and the rules, by what the code looks at.
-- Assumes nothing.
use mathlib.Core.Path.{◌≡◌, refl, sym, ap, ◌∙◌}
use mathlib.Core.Bool.{Bool, true, false, not, ◌&&◌, and_assoc}
use mathlib.Core.List.{List}
use Rattle.std.proofs.Math.Bool.{and-false, and-true}
use Prim.Native.Nat.{ℕ, ◌+◌, ◌-◌, ◌%◌, ◌≤◌, ◌<◌}
use native.Mathlib.Omega.{arith}
use lib.Dec.{leb, ltb, eqb}
use lib.ListN.{drop, get_or, length}
use lib.Seq.{drop-length}
use borrow.Author.Tests.{ne_eqb, le-leb, lt-leb, lt-ltb, le-ltb, not-true, not-false}
use Rattle.ground.specs.Lists.{all}
use Rattle.ground.proofs.Lists.{at_place}
use Rattle.lexicon.specs.Symbol.{one_symbol}
use Rattle.tables.specs.declared.row.Range.{Range}
use Rattle.tables.specs.Layout.{count, word, part, name_at, name_inside}
use Rattle.tables.specs.Range.{Clamps}
use Rattle.tables.specs.Kept.{kept}
use Rattle.tables.specs.Rules.{name_right}
use Rattle.tables.specs.Right.{right_name, right_own, right_variable, right_function, entity_at, sized}
use Rattle.tables.proofs.Ranges.{length_clamped}

-- so many entries from one on are all there
pub inside-name : (names ws : List ℕ) (i first size : ℕ) (r : Bool) → first ≡ word ws i 0 → size ≡ word ws i 1 → r ≡ leb (first + size) (length names) → r ≡ name_inside names ws i
inside-name names ws i first size r e g h = h ∙ rw (e, g) refl

-- names
pub right-long : (name : List ℕ) → 65536 < length name → false ≡ name_right name
right-long name h = rw (lt-leb (length name) 65536 h)

pub right-short : (name : List ℕ) → length name ≤ 65536 → (r : Bool) → r ≡ one_symbol name → r ≡ name_right name
right-short name h r e = rw (le-leb (length name) 65536 h) e

module _ (names ws : List ℕ) (i : ℕ) (r : Bool) (e : r ≡ right_name names ws i) where
  own-both : (r && not (kept (name_at names ws i))) ≡ right_own names ws i
  own-both = rw e (and_assoc (name_inside names ws i) (name_right (name_at names ws i)) (not (kept (name_at names ws i))))

  pub own-no : not r ≡ true → false ≡ right_own names ws i
  own-no h = rw (sym own-both, not-true r h)

  pub own-yes : not r ≡ false → (k : Bool) → k ≡ kept (name_at names ws i) → not k ≡ right_own names ws i
  own-yes h k g = rw (sym own-both, not-false r h, g)

-- parts that are not too long
module _ (xs : List ℕ) (first size : ℕ) (r : Range) (h : Clamps first size (length xs) r) (limit : ℕ) (b : Bool) where
  pub part-long : limit < r.end - r.start → false ≡ (leb (length (part xs first size)) limit && b)
  part-long g = let e = length_clamped xs first size r h in rw (lt-leb (length (part xs first size)) limit (omega (arith, e)))

  pub part-short : r.end - r.start ≤ limit → (s : Bool) → s ≡ b → s ≡ (leb (length (part xs first size)) limit && b)
  part-short g s q = let e = length_clamped xs first size r h in rw (le-leb (length (part xs first size)) limit (omega (arith, e))) q

-- rows that are there
module _ (w n k : ℕ) (e : k ≡ w) (b : Bool) where
  pub there-no : n ≤ k → false ≡ (ltb w n && b)
  there-no h = rw (le-ltb w n (omega (arith, e)))

-- so a variable or a function is not right whose sort is past the sort rows
second-no : (a b : Bool) → false ≡ b → false ≡ (a && b)
second-no a b e = sym (and-false a) ∙ ap (λ (t : Bool). a && t) e

module _ (ws names : List ℕ) (n i : ℕ) where
  pub variable-past : n ≤ word ws i 2 → false ≡ right_variable ws names n i
  variable-past h = second-no _ _ (there-no (word ws i 2) n (word ws i 2) refl true h ∙ and-true (ltb (word ws i 2) n))

  pub argument-past : n ≤ word ws i 2 → false ≡ right_function ws names n i
  argument-past h = second-no _ _ (there-no (word ws i 2) n (word ws i 2) refl (ltb (word ws i 3) n) h)

  pub result-past : n ≤ word ws i 3 → false ≡ right_function ws names n i
  result-past h = second-no _ _ (second-no _ _ (there-no (word ws i 3) n (word ws i 3) refl true h ∙ and-true (ltb (word ws i 3) n)))

module _ (sorts : List ℕ) (row n : ℕ) (e : n ≡ count sorts) where
  pub entity-past : n ≤ row → false ≡ entity_at sorts row
  entity-past h = rw (le-ltb row (count sorts) (omega (arith, e)))

  pub entity_in : row < n → (k : ℕ) → k ≡ word sorts row 2 → eqb k 9 ≡ entity_at sorts row
  entity_in h k g = rw (lt-ltb row (count sorts) (omega (arith, e)), g)

-- fields that are lower rows
module _ (fields : List ℕ) (row i : ℕ) where
  abbrev below : ℕ → Bool
  below = λ field. ltb field row

  module _ (inside : i < length fields) where
    below-turn : all below (drop i fields) ≡ (ltb (get_or fields i 0) row && all below (drop (i + 1) fields))
    unfolding all
    below-turn = rw (at_place fields i inside)

    pub below-no : row ≤ get_or fields i 0 → all below (drop i fields) ≡ false
    below-no h = below-turn ∙ ap (λ (t : Bool). t && all below (drop (i + 1) fields)) (le-ltb (get_or fields i 0) row h)

    pub below-yes : get_or fields i 0 < row → all below (drop i fields) ≡ all below (drop (i + 1) fields)
    below-yes h = below-turn ∙ ap (λ (t : Bool). t && all below (drop (i + 1) fields)) (lt-ltb (get_or fields i 0) row h)

  pub below_end : i ≡ length fields → all below (drop i fields) ≡ true
  unfolding all
  below_end h = rw (h, drop-length fields)

-- the size of a table
pub table_odd : (ws : List ℕ) → (length ws % 5 ≡ 0 → ⊥) → false ≡ sized ws
table_odd ws h = rw (ne_eqb (length ws % 5) 0 h)
