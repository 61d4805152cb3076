use mathlib.Core.Path.{ap, ◌∙◌}
use Rattle.tables.specs.Slot.{next_slot}
use Rattle.tables.proofs.Slots.{folded_start, folded_next, folded_end}
use Rattle.tables.proofs.slot.slot_from.Goals as goal

pub loop-byte-init : goal.loop-byte-init
loop-byte-init c = folded_start _ _ c.requires

pub next_slot-slot-requires : goal.next_slot-slot-requires
next_slot-slot-requires c = c.loop-byte.invariant.below

pub loop-byte-preserved : goal.loop-byte-preserved
loop-byte-preserved c = folded_next _ _ _ _ c.loop-byte.invariant c.loop-byte-test.true _ (c.next_slot-slot.ensures ∙ ap (next_slot c.loop-byte.slot) c.from.ensures)

pub returns : goal.returns
returns c = folded_end _ _ _ _ c.loop-byte.invariant c.loop-byte-test.false
