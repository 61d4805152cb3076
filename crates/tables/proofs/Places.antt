-- The element at a place, the first one that passes a test, and that there is no other where no two are the same.
-- Assumes nothing.
use Rattle.std.proofs.Common.{None, Option, Some}
use mathlib.Core.Path.{◌≡◌, refl, sym, ap, ◌∙◌}
use mathlib.Core.Bool.{Bool, true, not, true≢false}
use mathlib.Core.List.{List, [], ◌∷◌}
use Prim.Native.Nat.{ℕ, zero, suc, ◌+◌, ◌≤◌, ◌<◌}
use native.Mathlib.Nat.{add-zero, zero-add}
use native.Mathlib.Omega.{arith}
use lib.ListN.{length}
use Rattle.ground.specs.Lists.{any, distinct, up, find, at, tabulate}
use Rattle.ground.proofs.Tests.{by_test, both_right}

module _ {A : Type 0} (f : ℕ → A) where
  pub length-tabulate : (k n : ℕ) → length (tabulate f k n) ≡ n
  unfolding tabulate
  length-tabulate k zero = refl
  length-tabulate k (suc n) = ap suc (length-tabulate (suc k) n)

  at_from : (k n i : ℕ) → i < n → at (tabulate f k n) i ≡ Some (f (k + i))
  unfolding tabulate at
  at_from k zero i h = absurd (omega (arith, h))
  at_from k (suc n) zero h = rw (add-zero k) refl
  at_from k (suc n) (suc i) h = let e : suc k + i ≡ k + suc i = omega arith in at_from (suc k) n i (omega arith) ∙ ap (λ (j : ℕ). Some (f j)) e

  pub at-tabulate : (n i : ℕ) → i < n → at (tabulate f 0 n) i ≡ Some (f i)
  at-tabulate n i h = at_from 0 n i h ∙ ap (λ (j : ℕ). Some (f j)) (zero-add i)

  pub at-past : (k n i : ℕ) → n ≤ i → at (tabulate f k n) i ≡ None
  unfolding tabulate at
  at-past k zero i h = refl
  at-past k (suc n) zero h = absurd (omega (arith, h))
  at-past k (suc n) (suc i) h = at-past (suc k) n i (omega arith)

pub some_one : {A : Type 0} {x y : A} → Some x ≡ Some y → x ≡ y
some_one e = cc

pub none-some : {A : Type 0} {x : A} → None ≡ Some x → ⊥
none-some e = let z : ◌≡◌ {A = ℕ} 0 1 = cc in absurd (omega arith)

module _ {A : Type 0} where
  pub any_at : (test : A → Bool) (xs : List A) (j : ℕ) (y : A) → at xs j ≡ Some y → test y ≡ true → any test xs ≡ true
  unfolding any at
  any_at test [] j y e t = absurd (none-some e)
  any_at test (x ∷ xs) zero y e t = rw (some_one e, t) refl
  any_at test (x ∷ xs) (suc j) y e t = by_test (test x) (λ h. rw h refl) (λ h. rw h (any_at test xs j y e t))

  module _ (test : A → Bool) where
    up-some : (o : Option ℕ) (i : ℕ) → up o ≡ Some i → (k : ℕ) × (o ≡ Some k) × (i ≡ suc k)
    up-some None i e = absurd (none-some e)
    up-some (Some k) i e = (k, refl, sym (some_one e))

    pub find-within : (xs : List A) (i : ℕ) → find test xs ≡ Some i → i < length xs
    unfolding find
    find-within [] i e = absurd (none-some e)
    find-within (x ∷ xs) i e =
        by_test (test x)
        (λ h. let z : 0 ≡ i = some_one (rw h at e) in omega arith)
        (λ h.
        let u = up-some (find test xs) i (rw h at e) in
        let g = find-within xs u.0 u.1 in
        omega (arith, g, u.2))

    -- what is found passes the test
    pub find-passes : (xs : List A) (i : ℕ) → find test xs ≡ Some i → (x : A) × (at xs i ≡ Some x) × (test x ≡ true)
    unfolding find at
    find-passes [] i e = absurd (none-some e)
    find-passes (x ∷ xs) i e =
        by_test (test x)
        (λ h. let z : 0 ≡ i = some_one (rw h at e) in rw (sym z) (x, refl, h))
        (λ h.
        let u = up-some (find test xs) i (rw h at e) in
        let g = find-passes xs u.0 u.1 in
        rw u.2 (g.0, g.1, g.2))

    -- and nothing else does, where two that do are the same
    module _ (same : A → A → Bool) (joins : (x y : A) → test x ≡ true → test y ≡ true → same x y ≡ true) where
      pub find-only : (xs : List A) (i j : ℕ) (y : A) → distinct same xs ≡ true → find test xs ≡ Some i → at xs j ≡ Some y → test y ≡ true → i ≡ j
      unfolding find at distinct
      find-only [] i j y d e a t = absurd (none-some e)
      find-only (x ∷ xs) i zero y d e a t =
          let h : test x ≡ true = ap test (some_one a) ∙ t in
          sym (some_one (rw h at e))
      find-only (x ∷ xs) i (suc j) y d e a t =
          by_test (test x)
          (λ h. let z : any (same x) xs ≡ true = any_at (same x) xs j y a (joins x y h t) in absurd (true≢false (sym (rw z at d))))
          (λ h.
          let u = up-some (find test xs) i (rw h at e) in
          u.2 ∙ ap suc (find-only xs u.0 j y (both_right (not (any (same x) xs)) (distinct same xs) d) u.1 a t))
