use mathlib.Core.Path.{ap₂}
use Prim.Native.Nat.{ℕ, ◌+◌}
use native.Mathlib.Omega.{arith}
use Rattle.listing.proofs.Tallies.{tally_start, tally_step, tally_end}
use Rattle.listing.proofs.tally.tally_entries.Goals as goal

pub overflow_add-rows : goal.overflow_add-rows
overflow_add-rows c = record { fits = omega (arith, c.count.ensures, c.count-2.ensures) }

pub loop-slot-init : goal.loop-slot-init
loop-slot-init c = let args = c.args in tally_start args.variables.now args.functions.now args.names.now args.last.now _ (ap₂ (λ (a b : ℕ). a + b) c.count.ensures c.count-2.ensures)

pub loop-slot-preserved : goal.loop-slot-preserved
loop-slot-preserved c = tally_step _ _ _ _ _ _ _ c.loop-slot.invariant c.loop-slot-test.true _ c.add_entry-tally.ensures

pub returns : goal.returns
returns c = tally_end _ _ _ _ _ _ _ c.loop-slot.invariant c.loop-slot-test.false
