-- Rows in order: one turn of a search, and what a search and a test of each row say of the list of rows.
-- Assumes nothing.
use Rattle.std.proofs.Common.{None, Option, Some}
use mathlib.Core.Path.{◌≡◌, refl, sym, ap, ◌∙◌}
use mathlib.Core.Bool.{Bool, true, false, cond, not, ◌&&◌}
use Prim.Native.Nat.{ℕ, zero, suc, ◌+◌, ◌-◌, ◌≤◌, ◌<◌}
use native.Mathlib.Nat.{add-zero}
use native.Mathlib.Numerals.{add-one}
use native.Mathlib.Omega.{arith}
use lib.Dec.{eqb}
use borrow.Author.Tests.{eqb-true, eqb-false}
use Rattle.ground.specs.Lists.{any, all, distinct, up, find, tabulate}
use Rattle.ground.proofs.Tests.{by_test, and-false}
use Rattle.tables.specs.Find.{found}
use Rattle.tables.specs.Search.{is_row, first_row, every_row}

pub exchange : (a b c d : Bool) → ((a && b) && (c && d)) ≡ ((a && c) && (b && d))
exchange true true c d = refl
exchange true false c d = sym (and-false c)
exchange false b c d = refl

module _ (test : ℕ → Bool) (i n : ℕ) where
  module _ (inside : i < n) where
    first-turn : first_row test i (n - i) ≡ cond (test i) (Some i) (first_row test (i + 1) (n - (i + 1)))
    unfolding first_row
    first-turn = let e : n - i ≡ suc (n - suc i) = omega arith in rw (e, add-one)

    pub first-here : test i ≡ true → first_row test i (n - i) ≡ Some i
    first-here e = first-turn ∙ ap (λ (t : Bool). cond t (Some i) (first_row test (i + 1) (n - (i + 1)))) e

    pub first-later : test i ≡ false → first_row test i (n - i) ≡ first_row test (i + 1) (n - (i + 1))
    first-later e = first-turn ∙ ap (λ (t : Bool). cond t (Some i) (first_row test (i + 1) (n - (i + 1)))) e

    every-turn : every_row test i (n - i) ≡ (test i && every_row test (i + 1) (n - (i + 1)))
    unfolding every_row
    every-turn = let e : n - i ≡ suc (n - suc i) = omega arith in rw (e, add-one)

    pub every-fails : test i ≡ false → every_row test i (n - i) ≡ false
    every-fails e = every-turn ∙ ap (λ (t : Bool). t && every_row test (i + 1) (n - (i + 1))) e

    pub every-later : test i ≡ true → every_row test i (n - i) ≡ every_row test (i + 1) (n - (i + 1))
    every-later e = every-turn ∙ ap (λ (t : Bool). t && every_row test (i + 1) (n - (i + 1))) e

  module _ (past : n ≤ i) where
    pub first-none : first_row test i (n - i) ≡ None
    unfolding first_row
    first-none = let e : n - i ≡ 0 = omega arith in ap (λ (k : ℕ). first_row test i k) e

    pub every-end : every_row test i (n - i) ≡ true
    unfolding every_row
    every-end = let e : n - i ≡ 0 = omega arith in ap (λ (k : ℕ). every_row test i k) e

-- the place of a row, counted from one on
abbrev found_from : ℕ → Option ℕ → Option ℕ
found_from k None = None
found_from k (Some i) = Some (k + i)

from_up : (k : ℕ) (o : Option ℕ) → found_from (suc k) o ≡ found_from k (up o)
from_up k None = refl
from_up k (Some i) = let e : suc k + i ≡ k + suc i = omega arith in ap (λ (j : ℕ). Some j) e

from_zero : (o : Option ℕ) → found_from 0 o ≡ found o
from_zero None = refl
from_zero (Some i) = let e : 0 + i ≡ i = omega arith in ap (λ (j : ℕ). Some j) e

module _ {A : Type 0} (test : ℕ → Bool) (f : ℕ → A) (asked : A → Bool) (agree : (i : ℕ) → test i ≡ asked (f i)) where
  first-from : (k n : ℕ) → first_row test k n ≡ found_from k (find asked (tabulate f k n))
  unfolding first_row find tabulate
  first-from k zero = refl
  first-from k (suc n) =
      rw (agree k)
      (by_test (asked (f k))
      (λ e. rw (e, add-zero k) refl)
      (λ e. rw e (first-from (suc k) n ∙ from_up k (find asked (tabulate f (suc k) n)))))

  pub first_found : (n : ℕ) → first_row test 0 n ≡ found (find asked (tabulate f 0 n))
  first_found n = first-from 0 n ∙ from_zero (find asked (tabulate f 0 n))

  pub first_any : (k n : ℕ) → is_row (first_row test k n) ≡ any asked (tabulate f k n)
  unfolding first_row any tabulate
  first_any k zero = refl
  first_any k (suc n) =
      rw (agree k)
      (by_test (asked (f k))
      (λ e. rw e refl)
      (λ e. rw e (first_any (suc k) n)))

  pub every-all : (k n : ℕ) → every_row test k n ≡ all asked (tabulate f k n)
  unfolding every_row all tabulate
  every-all k zero = refl
  every-all k (suc n) = rw (agree k, every-all (suc k) n)

-- tests that agree at each row
pub first-same : (test other : ℕ → Bool) → ((i : ℕ) → test i ≡ other i) → (k n : ℕ) → first_row test k n ≡ first_row other k n
unfolding first_row
first-same test other agree k zero = refl
first-same test other agree k (suc n) = rw (agree k, first-same test other agree (suc k) n)

-- a test that no row passes, and one that some row does not pass
pub first_absent : (test : ℕ → Bool) (k m : ℕ) → ((j : ℕ) → k ≤ j → j < k + m → test j ≡ false) → first_row test k m ≡ None
unfolding first_row
first_absent test k zero h = refl
first_absent test k (suc m) h =
    rw (h k (omega arith) (omega arith))
    (first_absent test (suc k) m (λ j a b. h j (omega arith) (omega arith)))

pub every-missed : (test : ℕ → Bool) (j k m : ℕ) → k ≤ j → j < k + m → test j ≡ false → every_row test k m ≡ false
unfolding every_row
every-missed test j k zero a b e = absurd (omega arith)
every-missed test j k (suc m) a b e =
    by_test (eqb k j)
    (λ t. let q : k ≡ j = eqb-true k j t in rw (q, e))
    (λ t.
    let q = eqb-false k j t in
    ap (λ (x : Bool). test k && x) (every-missed test j (suc k) m (omega (arith, q)) (omega arith) e)
    ∙ and-false (test k))

-- two tests of each row
pub every-both : (test a b : ℕ → Bool) → ((i : ℕ) → test i ≡ (a i && b i)) → (k n : ℕ) → every_row test k n ≡ (every_row a k n && every_row b k n)
unfolding every_row
every-both test a b split k zero = refl
every-both test a b split k (suc n) =
    rw (split k, every-both test a b split (suc k) n) (exchange (a k) (b k) (every_row a (suc k) n) (every_row b (suc k) n))

-- no row is the same as a later one, up to the end
module _ {A : Type 0} (f : ℕ → A) (same : A → A → Bool) (other : ℕ → ℕ → Bool) (agree : (i j : ℕ) → other i j ≡ same (f i) (f j)) (end : ℕ) where
  abbrev single : ℕ → Bool
  single i = not (is_row (first_row (other i) (i + 1) (end - (i + 1))))

  pub every-distinct : (k n : ℕ) → k + n ≡ end → every_row single k n ≡ distinct same (tabulate f k n)
  unfolding every_row distinct tabulate
  every-distinct k zero e = refl
  every-distinct k (suc n) e =
      let h : end - suc k ≡ n = omega (arith, e) in
      let g : suc k + n ≡ end = omega (arith, e) in
      rw (add-one, h, first_any (other k) f (same (f k)) (agree k) (suc k) n, every-distinct (suc k) n g)
