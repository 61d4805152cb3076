use mathlib.Core.Path.{ap₂}
use Prim.Native.Nat.{ℕ, ◌+◌}
use native.Mathlib.Omega.{arith}
use Rattle.listing.proofs.Pieces.{laying_start, laying_step, laying_end}
use Rattle.listing.proofs.entry.write_entries.Goals as goal

pub overflow_add-rows : goal.overflow_add-rows
overflow_add-rows c = record { fits = omega (arith, c.count.ensures, c.count-2.ensures) }

pub loop-slot-init : goal.loop-slot-init
loop-slot-init c = let args = c.args in laying_start args.sorts.now args.variables.now args.functions.now args.members.now args.names.now args.nodes.now args.text.now args.last.now args.scratch.now args.out.now args.place _ (ap₂ (λ (a b : ℕ). a + b) c.count.ensures c.count-2.ensures)

pub loop-slot-preserved : goal.loop-slot-preserved
loop-slot-preserved c = laying_step _ _ _ _ _ _ _ _ _ _ _ _ _ _ _ _ c.loop-slot.invariant _ _ _ c.loop-slot-test.true c.write_entry-to.auto.scratch c.write_entry-to.auto.out c.write_entry-to.ensures

pub returns : goal.returns
returns c = laying_end _ _ _ _ _ _ _ _ _ _ _ _ _ _ _ _ c.loop-slot.invariant c.loop-slot-test.false
