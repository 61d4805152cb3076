use Rattle.listing.proofs.Pieces.{Laying}
use Rattle.listing.proofs.entry.write_entries.Given as goal

abbrev pub invariant-loop-slot : goal.invariant-loop-slot
invariant-loop-slot l = Laying l.sorts l.variables l.functions l.members l.names l.nodes l.text l.last l.initial.scratch l.initial.out l.place l.scratch l.out l.to l.rows l.slot
