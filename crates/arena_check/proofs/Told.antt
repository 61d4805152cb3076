-- What an answer tells, given or found.
-- Assumes nothing.
use Rattle.std.proofs.Common.{Err, None, Option, Some}
use mathlib.Core.Path.{◌≡◌, refl, sym}
use mathlib.Core.Bool.{Bool, true, false, true≢false}
use Rattle.std.specs.Bool.{then_some}
use Rattle.std.specs.Option.{ok_or}
use Prim.Native.Nat.{ℕ}
use native.Mathlib.Omega.{arith}
use Rattle.arena_check.specs.Right.{Tells, Steps}

pub tells-yes : {P : Type 0} → P → Tells P true
tells-yes p = record { yes = λ e. p; no = λ e. absurd (true≢false e) }

pub tells-no : {P : Type 0} → (P → ⊥) → Tells P false
tells-no f = record { yes = λ e. absurd (true≢false (sym e)); no = λ e. f }

pub steps_to : {P : Type 0} {n : ℕ} → P → Steps P n (Some n)
steps_to {P} {n} p = record {
  right = λ m e. p;
  goes = λ m e. (cc);
  wrong = λ e. let z : ◌≡◌ {A = ℕ} 0 1 = cc in absurd (omega arith);
}

pub steps_wrong : {P : Type 0} {n : ℕ} → (P → ⊥) → Steps P n None
steps_wrong {P} {n} f = record {
  right = λ m e. let z : ◌≡◌ {A = ℕ} 0 1 = cc in absurd (omega arith);
  goes = λ m e. let z : ◌≡◌ {A = ℕ} 0 1 = cc in absurd (omega arith);
  wrong = λ e. f;
}

-- a test that tells, and the step that it allows
pub stays : {P : Type 0} (n : ℕ) (t : Bool) → Tells P t → Steps P n (then_some t n)
stays n true h = steps_to (h.yes refl)
stays n false h = steps_wrong (h.no refl)

-- a refusal in place of nothing
pub refused_none : {A E : Type 0} (o : Option A) (e y : E) → ok_or o e ≡ Err y → (o ≡ None) × (y ≡ e)
refused_none None e y q = (refl, cc)
refused_none (Some x) e y q = (cc)
