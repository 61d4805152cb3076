use Rattle.tables.specs.Lookup.{FindsVariable}
use Prim.Native.Nat.{ℕ}
use mathlib.Core.List.{List}
use mathlib.Core.Path.{refl, subst}
use Rattle.walk.proofs.command.variable_row.Goals as goal

pub returns : goal.returns
returns c = subst (λ (s : List ℕ). FindsVariable c.args.variables.now c.args.names.now s c.find_variable.result) (c.clamp-range.ensures.holds _ refl) c.find_variable.ensures
