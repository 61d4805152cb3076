use Rattle.tables.proofs.Slots.{Folded}
use Rattle.tables.proofs.slot.slot_from.Given as goal

abbrev pub invariant-loop-byte : goal.invariant-loop-byte
invariant-loop-byte l = Folded l.text l.start l.slot l.byte-index
