-- What a rule made of a thing that may be missing, and what two equal answers hold.
-- Assumes nothing.
use Rattle.std.proofs.Common.{None, Option, Some, Ok, Result}
use mathlib.Core.Path.{◌≡◌, refl}
use Prim.Native.Nat.{ℕ}
use native.Mathlib.Omega.{arith}
use Rattle.ground.specs.Options.{over}

-- the thing was there
pub over-some : {A B : Type 0} (o : Option A) (rule : A → Option B) (y : B) → over o rule ≡ Some y → (x : A) × (o ≡ Some x) × (rule x ≡ Some y)
over-some None rule y h = let z : ◌≡◌ {A = ℕ} 0 1 = cc in absurd (omega arith)
over-some (Some x) rule y h = (x, refl, h)

-- equal answers hold equal things
pub some-same : {A : Type 0} {x y : A} → Some x ≡ Some y → x ≡ y
some-same e = cc

pub ok-same : {A B : Type 0} {x y : A} → ◌≡◌ {A = Result A B} (Ok x) (Ok y) → x ≡ y
ok-same e = cc

pub none-not-some : {A : Type 0} {x : A} → ◌≡◌ {A = Option A} None (Some x) → ⊥
none-not-some e = let z : ◌≡◌ {A = ℕ} 0 1 = cc in absurd (omega arith)
