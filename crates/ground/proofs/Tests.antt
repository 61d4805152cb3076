-- Case splits on numbers, and Boolean tests.
-- Assumes nothing.
use mathlib.Core.Path.{◌≡◌, refl, sym, ◌∙◌}
use mathlib.Core.Bool.{Bool, true, false, cond, ◌&&◌, false≢true}
use Prim.Native.Nat.{ℕ, ◌≤◌, ◌<◌}
use native.Mathlib.Decide.{dec_lt}
use native.Mathlib.Omega.{arith}
pub use mathlib.Core.Bool.{and-true, and-false}

-- a number is below another, or not
pub by_order {ℓ} : (a b : ℕ) {P : Type ℓ} → (a < b → P) → (b ≤ a → P) → P
by_order a b f g = elim (dec_lt a b) [ yes h ↦ f h | no h ↦ g (omega (arith, h)) ]

-- a test passes, or not
pub by_test {ℓ} : (t : Bool) {P : Type ℓ} → (t ≡ true → P) → (t ≡ false → P) → P
by_test true f g = f refl
by_test false f g = g refl

-- what each of the two has where it is chosen, the chosen one has
pub by_cond : {A : Type 0} (P : A → Type 0) (t : Bool) (x y : A) → (t ≡ true → P x) → (t ≡ false → P y) → P (cond t x y)
by_cond P true x y f g = f refl
by_cond P false x y f g = g refl

-- two tests pass if each does
pub both : {a b : Bool} → a ≡ true → b ≡ true → (a && b) ≡ true
both p q = rw (p, q)

pub both-parts : (a b : Bool) → (a && b) ≡ true → (a ≡ true) × (b ≡ true)
both-parts true b h = (refl, h)
both-parts false b h = absurd (false≢true h)

pub both_left : (a b : Bool) → (a && b) ≡ true → a ≡ true
both_left a b h = (both-parts a b h).0

pub both_right : (a b : Bool) → (a && b) ≡ true → b ≡ true
both_right a b h = (both-parts a b h).1

-- any two values that a contract sets equal to one are equal
pub one-result {ℓ} : {A : Type ℓ} {x r s : A} → r ≡ x → s ≡ x → r ≡ s
one-result p q = p ∙ sym q
