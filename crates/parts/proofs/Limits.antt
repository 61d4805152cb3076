-- Inputs that are too long, and inputs that are not.
-- Assumes nothing.
use mathlib.Core.Path.{◌≡◌, refl, sym, ap, ◌∙◌}
use mathlib.Core.Bool.{Bool, true, false, ◌||◌}
use mathlib.Core.List.{List, [], ◌∷◌}
use Prim.Native.Nat.{ℕ, ◌≤◌}
use native.Mathlib.Omega.{arith}
use lib.Dec.{ltb}
use lib.ListN.{length}
use borrow.Author.Tests.{lt-ltb}
use Rattle.ground.specs.Lists.{any}
use Rattle.ground.proofs.Tests.{by_order}
use Rattle.refusals.specs.Limit.{input_limit}
use Rattle.parts.specs.Limit.{too_long}

pub none-long : too_long [] ≡ false
unfolding too_long any
none-long = refl

-- the answer of `exceeds` over each input is that one is too long
pub exceeds-one : {r others : Bool} (a : List ℕ) (rest : List (List ℕ)) → r ≡ (ltb input_limit (length a) || others) → others ≡ too_long rest → r ≡ too_long (a ∷ rest)
unfolding too_long any
exceeds-one {r} {others} a rest p q = p ∙ ap (λ (b : Bool). ltb input_limit (length a) || b) q

-- where none is too long, none is
pub long-head : (a : List ℕ) (rest : List (List ℕ)) → too_long (a ∷ rest) ≡ false → length a ≤ input_limit
unfolding too_long any
long-head a rest h =
    by_order input_limit (length a)
    (λ more.
    let f : ltb input_limit (length a) ≡ true = lt-ltb input_limit (length a) more in
    let e : true ≡ false = sym (ap (λ (b : Bool). b || too_long rest) f) ∙ h in
    let z : ◌≡◌ {A = ℕ} 0 1 = cc in
    absurd (omega arith))
    (λ less. less)

pub long-tail : (a : List ℕ) (rest : List (List ℕ)) → too_long (a ∷ rest) ≡ false → too_long rest ≡ false
unfolding too_long any
long-tail a rest h = second (ltb input_limit (length a)) h
  where
    second : (t : Bool) {u : Bool} → (t || u) ≡ false → u ≡ false
    second true k = let z : ◌≡◌ {A = ℕ} 0 1 = cc in absurd (omega arith)
    second false k = k

abbrev pub Short : List (List ℕ) → Type 0
Short [] = Unit {0}
Short (a ∷ rest) = (length a ≤ input_limit) × Short rest

pub all_short : (inputs : List (List ℕ)) → too_long inputs ≡ false → Short inputs
all_short [] h = tt
all_short (a ∷ rest) h = (long-head a rest h, all_short rest (long-tail a rest h))
