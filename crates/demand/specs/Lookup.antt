-- Document 01, "The listing", `when=`, `then=` and `else=`: the value that a table gives an argument.
use Rattle.std.specs.Prelude.{◌≡◌, cond, List, [], ◌∷◌, ℕ, Some}
use Rattle.ground.specs.Lists.{at}
use Rattle.order.specs.Every.{Every}
use Rattle.values.specs.Value.{Value}
use Rattle.model.specs.Model.{Arm, Table}
use Rattle.values.specs.Equal.{decided, equal}

-- the value that a table gives an argument: the first arm's whose key it is, else the default
unfoldable pub first_of : List Arm → Value → Value → Value
first_of [] else v = else
first_of (a ∷ arms) else v = cond (decided (equal a.«when» v)) a.«then» (first_of arms else v)

abbrev pub lookup : Table → Value → Value
lookup t v = first_of t.arms t.«else» v

-- the values that a table can be said to give: of any arm whose key the argument is, and the default where it is no key
pub data Gives (t : Table) (v w : Value) : Type 0 where
  by_arm : (i : ℕ) (a : Arm) → at t.arms i ≡ Some a → a.«when» ≡ v → a.«then» ≡ w → Gives t v w
  by_default : Every (λ a. a.«when» ≡ v → ⊥) t.arms → t.«else» ≡ w → Gives t v w
