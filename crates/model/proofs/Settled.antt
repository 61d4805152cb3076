-- The last definitions of settled ones are the last ones settled.
-- Assumes nothing.
use Rattle.std.proofs.Common.{Option}
use mathlib.Core.Path.{◌≡◌, refl, ap₂, ◌∙◌}
use mathlib.Core.List.{List, [], ◌∷◌, map}
use Prim.Native.Nat.{ℕ}
use lib.Dec.{eqb}
use Rattle.ground.proofs.Tests.{by_test}
use Rattle.values.specs.Normal.{normal}
use Rattle.values.specs.Value.{Value}
use Rattle.model.specs.Model.{Table, Definition, is_variable, is_function, or_else, variable_in, function_in, last_variable, last_function}
use Rattle.model.specs.Listing.{settled_table, settled}
use Rattle.model.proofs.Choices.{mapped, mapped_or}

settled-variable_in : (i : ℕ) (d : Definition) → variable_in i (settled d) ≡ mapped normal (variable_in i d)
settled-variable_in i (is_variable j v) = by_test (eqb i j) (λ h. rw h refl) (λ h. rw h refl)
settled-variable_in i (is_function j t) = refl

settled-function_in : (i : ℕ) (d : Definition) → function_in i (settled d) ≡ mapped settled_table (function_in i d)
settled-function_in i (is_variable j v) = refl
settled-function_in i (is_function j t) = by_test (eqb i j) (λ h. rw h refl) (λ h. rw h refl)

pub settled-variable : (i : ℕ) (ds : List Definition) → last_variable i (map settled ds) ≡ mapped normal (last_variable i ds)
unfolding last_variable
settled-variable i [] = refl
settled-variable i (d ∷ ds) =
    ap₂ (λ (a b : Option Value). or_else a b) (settled-variable i ds) (settled-variable_in i d) ∙ mapped_or normal (last_variable i ds) (variable_in i d)

pub settled-function : (i : ℕ) (ds : List Definition) → last_function i (map settled ds) ≡ mapped settled_table (last_function i ds)
unfolding last_function
settled-function i [] = refl
settled-function i (d ∷ ds) =
    ap₂ (λ (a b : Option Table). or_else a b) (settled-function i ds) (settled-function_in i d) ∙ mapped_or settled_table (last_function i ds) (function_in i d)
