use Rattle.listing.proofs.Tallies.{Sofar}
use Rattle.listing.proofs.tally.tally_entries.Given as goal

abbrev pub invariant-loop-slot : goal.invariant-loop-slot
invariant-loop-slot l = Sofar l.variables l.functions l.names l.last l.rows l.slot l.tally
