use mathlib.Core.Path.{ap}
use Prim.Native.Nat.{ℕ, ◌+◌}
use native.Mathlib.Omega.{arith}
use Rattle.decimals.proofs.Magnitudes.{back}
use Rattle.values.proofs.Lengths.{signed-most}
use Rattle.literals.proofs.Words.{extension-value}
use Rattle.literals.proofs.leaf.extension_of.Goals as goal

pub overflow_add-need : goal.overflow_add-need
overflow_add-need c = record { fits = omega (arith, c.signed_length-need.ensures, signed-most (back c.signed_low.result)) }

pub returns : goal.returns
returns c = let a = c.args in extension-value a.sorts.now (c.signed_length-need.result + 2) c.value_of.result a.kind a.low c.signed_low.result (record { sfits = c.signed_low.type_inv }) c.signed_low.ensures (ap (λ (k : ℕ). k + 2) c.signed_length-need.ensures) c.wanted_of.result c.wanted_of.ensures c.value_of.ensures
