-- What a form of an escape makes of bytes.
-- Assumes nothing.
use mathlib.Core.Path.{◌≡◌, refl}
use mathlib.Core.Bool.{Bool, true, false, cond, ◌&&◌}
use mathlib.Core.List.{List, [], ◌∷◌}
use Rattle.std.proofs.Common.{Option, None, Some}
use Rattle.ground.proofs.Options.{none-not-some}
use Prim.Native.Nat.{ℕ, ◌-◌}
use lib.ListN.{length}
use Rattle.theory.specs.Theory.{Place, number_by, Spelled, or_else, spelled_by}

pub taken : (t : Bool) (o : Option ℕ) (x : ℕ) → cond t o None ≡ Some x → (t ≡ true) × (o ≡ Some x)
taken true o x e = (refl, e)
taken false o x e = absurd (none-not-some e)

-- the bytes start with the first form, or the other forms decide
pub by_form : (P : Spelled → Type 0) (f : List Place) (fs : List (List Place)) (b : ℕ) (bs : List ℕ)
    → ((x : ℕ) → number_by f 0 (b ∷ bs) ≡ Some x → P (record { character = x; more = length f - 1 }))
    → (number_by f 0 (b ∷ bs) ≡ None → P (spelled_by fs b bs))
    → P (spelled_by (f ∷ fs) b bs)
unfolding spelled_by
by_form P f fs b bs first other = go (number_by f 0 (b ∷ bs)) refl
  where
    go : (o : Option ℕ) → number_by f 0 (b ∷ bs) ≡ o → P (or_else o (length f - 1) (spelled_by fs b bs))
    go (Some x) e = first x e
    go None e = other e

abbrev pub all : (List Place → Bool) → List (List Place) → Bool
all test [] = true
all test (f ∷ fs) = test f && all test fs
