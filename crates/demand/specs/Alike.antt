-- Document 01, "The listing": two models that define the same of each name in the tables.
use Rattle.std.specs.Prelude.{◌≡◌, List, ℕ, Some}
use Rattle.ground.specs.Lists.{at}
use Rattle.tables.specs.Sort.{Variable, Function, Tables}
use Rattle.model.specs.Model.{Definition, last_variable, last_function}

-- of each name nothing, or one value; of a function the same arms in order and the same default
pub record Alike (T : Tables) (ds es : List Definition) : Type 0 where
  pub variables : (i : ℕ) (x : Variable) → at T.variables i ≡ Some x → last_variable i ds ≡ last_variable i es
  pub functions : (i : ℕ) (f : Function) → at T.functions i ≡ Some f → last_function i ds ≡ last_function i es
