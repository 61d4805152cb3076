-- An reading that was given: what led to it.
-- Assumes nothing.
use Rattle.std.proofs.Common.{None, Option, Some, Err, Ok, Result}
use mathlib.Core.Path.{◌≡◌, refl, sym, ap}
use mathlib.Core.Bool.{Bool, true, false, true≢false}
use Rattle.refusals.specs.declared.Refusal.{Refusal}
use Rattle.sorts.specs.Result.{◌>>=◌, unless, found}

abbrev accepted : {A : Type 0} → Result A Refusal → Bool
accepted (Ok a) = true
accepted (Err r) = false

-- a refusal is no reading
pub refuses {ℓ} : {A : Type 0} {R : Type ℓ} {r : Refusal} {a : A} → ◌≡◌ {A = Result A Refusal} (Err r) (Ok a) → R
refuses e = absurd (true≢false (sym (ap accepted e)))

pub ok_same : {A : Type 0} {a b : A} → ◌≡◌ {A = Result A Refusal} (Ok a) (Ok b) → a ≡ b
ok_same e = cc

-- a first step and what it led to
pub record Went {A B : Type 0} (m : Result A Refusal) (f : A → Result B Refusal) (b : B) : Type 0 where
  pub got : A
  pub first : m ≡ Ok got
  pub next : f got ≡ Ok b

pub went : {A B : Type 0} (m : Result A Refusal) (f : A → Result B Refusal) (b : B) → (m >>= f) ≡ Ok b → Went m f b
unfolding ◌>>=◌
went (Ok a) f b e = record { got = a; first = refl; next = e }
went (Err r) f b e = refuses e

pub passed : {A : Type 0} (test : Bool) (r : Refusal) (next : Result A Refusal) (a : A) → unless test r next ≡ Ok a → (test ≡ true) × (next ≡ Ok a)
unfolding unless
passed true r next a e = (refl, e)
passed false r next a e = refuses e

pub was-found : {A : Type 0} (r : Refusal) (o : Option A) (a : A) → found r o ≡ Ok a → o ≡ Some a
was-found r None a e = refuses e
was-found r (Some b) a e = ap Some (ok_same e)
