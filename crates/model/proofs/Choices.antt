-- One thing or else another: with none, of three, and with a rule for what is there.
-- Assumes nothing.
use Rattle.std.proofs.Common.{None, Option, Some}
use mathlib.Core.Path.{◌≡◌, refl}
use Rattle.model.specs.Model.{or_else}

pub or_none : {A : Type 0} (a : Option A) → or_else a None ≡ a
or_none None = refl
or_none (Some a) = refl

pub or_assoc : {A : Type 0} (a b c : Option A) → or_else (or_else a b) c ≡ or_else a (or_else b c)
or_assoc None b c = refl
or_assoc (Some a) b c = refl

abbrev pub mapped : {A B : Type 0} → (A → B) → Option A → Option B
mapped f None = None
mapped f (Some a) = Some (f a)

pub mapped_or : {A B : Type 0} (f : A → B) (a b : Option A) → or_else (mapped f a) (mapped f b) ≡ mapped f (or_else a b)
mapped_or f None b = refl
mapped_or f (Some a) b = refl
