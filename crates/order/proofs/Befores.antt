-- The order of byte strings is strict, transitive and total.
-- Assumes nothing.
use mathlib.Core.Path.{◌≡◌, refl, ap, sym, ◌∙◌, subst}
use mathlib.Core.Bool.{Bool, true, false, cond}
use mathlib.Core.List.{List, [], ◌∷◌}
use Prim.Native.Nat.{ℕ, ◌<◌}
use native.Mathlib.Omega.{arith}
use lib.Dec.{ltb}
use borrow.Author.Tests.{ltb-true, ltb-false, lt-ltb, le-ltb}
use Rattle.ground.proofs.Tests.{by_test}
use Rattle.order.specs.Order.{before}

-- a test does not both pass and fail
pub never : {R : Type 0} → true ≡ false → R
never e = let z : ◌≡◌ {A = ℕ} 0 1 = ap (λ (t : Bool). cond t 0 1) e in absurd (omega arith)

-- which of three ways two numbers stand
pub by_three {ℓ} : {R : Type ℓ} (x y : ℕ) → (x < y → R) → (x ≡ y → R) → (y < x → R) → R
by_three x y f g h =
    by_test (ltb x y) (λ a. f (ltb-true x y a)) (λ a. by_test (ltb y x) (λ b. h (ltb-true y x b)) (λ b. g (let p = ltb-false x y a in let q = ltb-false y x b in omega arith)))

-- nothing is before the empty string, and it is before all others
pub before-none : (xs : List ℕ) → before xs [] ≡ false
unfolding before
before-none [] = refl
before-none (x ∷ xs) = refl

pub before-some : (y : ℕ) (ys : List ℕ) → before [] (y ∷ ys) ≡ true
unfolding before
before-some y ys = refl

-- the first bytes decide where they differ
pub before-less : (x y : ℕ) (xs ys : List ℕ) → x < y → before (x ∷ xs) (y ∷ ys) ≡ true
unfolding before
before-less x y xs ys h = ap (λ (t : Bool). cond t true (cond (ltb y x) false (before xs ys))) (lt-ltb x y h)

pub before_more : (x y : ℕ) (xs ys : List ℕ) → y < x → before (x ∷ xs) (y ∷ ys) ≡ false
unfolding before
before_more x y xs ys h =
    ap (λ (t : Bool). cond t true (cond (ltb y x) false (before xs ys))) (le-ltb x y (omega arith))
    ∙ ap (λ (t : Bool). cond t false (before xs ys)) (lt-ltb y x h)

pub before_same : (x : ℕ) (xs ys : List ℕ) → before (x ∷ xs) (x ∷ ys) ≡ before xs ys
unfolding before
before_same x xs ys =
    ap (λ (t : Bool). cond t true (cond (ltb x x) false (before xs ys))) (le-ltb x x (omega arith))
    ∙ ap (λ (t : Bool). cond t false (before xs ys)) (le-ltb x x (omega arith))

pub before_irreflexive : (xs : List ℕ) → before xs xs ≡ false
before_irreflexive [] = before-none []
before_irreflexive (x ∷ xs) = before_same x xs xs ∙ before_irreflexive xs

pub before_transitive : (xs ys zs : List ℕ) → before xs ys ≡ true → before ys zs ≡ true → before xs zs ≡ true
before_transitive xs ys [] a b = never (sym b ∙ before-none ys)
before_transitive xs [] (z ∷ zs) a b = never (sym a ∙ before-none xs)
before_transitive [] (y ∷ ys) (z ∷ zs) a b = before-some z zs
before_transitive (x ∷ xs) (y ∷ ys) (z ∷ zs) a b =
    by_three x y
    (λ h. by_three y z (λ k. before-less x z xs zs (omega arith)) (λ k. before-less x z xs zs (omega arith)) (λ k. never (sym b ∙ before_more y z ys zs k)))
    (λ h. by_three y z
    (λ k. before-less x z xs zs (omega arith))
    (λ k. subst (λ (w : ℕ). before (x ∷ xs) (w ∷ zs) ≡ true) (h ∙ k)
    (before_same x xs zs ∙ before_transitive xs ys zs (sym (before_same x xs ys) ∙ ap (λ (w : ℕ). before (x ∷ xs) (w ∷ ys)) h ∙ a) (sym (before_same z ys zs) ∙ ap (λ (w : ℕ). before (w ∷ ys) (z ∷ zs)) (sym k) ∙ b)))
    (λ k. never (sym b ∙ before_more y z ys zs k)))
    (λ h. never (sym a ∙ before_more x y xs ys h))

pub before_total : (xs ys : List ℕ) → before xs ys ≡ false → before ys xs ≡ false → xs ≡ ys
before_total [] [] a b = refl
before_total [] (y ∷ ys) a b = never (sym (before-some y ys) ∙ a)
before_total (x ∷ xs) [] a b = never (sym (before-some x xs) ∙ b)
before_total (x ∷ xs) (y ∷ ys) a b =
    by_three x y
    (λ h. never (sym (before-less x y xs ys h) ∙ a))
    (λ h. let e : xs ≡ ys =
    before_total xs ys
    (sym (before_same x xs ys) ∙ ap (λ (w : ℕ). before (x ∷ xs) (w ∷ ys)) h ∙ a)
    (sym (before_same y ys xs) ∙ ap (λ (w : ℕ). before (y ∷ ys) (w ∷ xs)) (sym h) ∙ b) in
    ap (λ (w : ℕ). w ∷ xs) h ∙ ap (λ (w : List ℕ). y ∷ w) e)
    (λ h. never (sym (before-less y x ys xs h) ∙ b))

pub before_asymmetric : (xs ys : List ℕ) → before xs ys ≡ true → before ys xs ≡ false
before_asymmetric xs ys h = by_test (before ys xs) (λ k. never (sym (before_transitive xs ys xs h k) ∙ before_irreflexive xs)) (λ k. k)

-- which of three ways two strings stand
pub by-order-of {ℓ} : {R : Type ℓ} (xs ys : List ℕ) → (before xs ys ≡ true → R) → (xs ≡ ys → R) → (before ys xs ≡ true → R) → R
by-order-of xs ys f g h = by_test (before xs ys) f (λ a. by_test (before ys xs) h (λ b. g (before_total xs ys a b)))

pub before-most : (xs ys zs : List ℕ) → before xs ys ≡ true → before zs ys ≡ false → before xs zs ≡ true
before-most xs ys zs a b =
    by-order-of ys zs
    (λ h. before_transitive xs ys zs a h)
    (λ h. subst (λ (w : List ℕ). before xs w ≡ true) h a)
    (λ h. never (sym h ∙ b))
