use Prim.Native.Nat.{◌-◌}
use lib.ListN.{length}
use Rattle.tables_text.proofs.Fields.{Fielding}
use Rattle.tables_text.proofs.sort.record_in.Given as goal

abbrev pub invariant-loop-at : goal.invariant-loop-at
invariant-loop-at l = Fielding l.s l.initial.fields l.before l.first l.at l.count l.fields

abbrev pub decreases-loop-at : goal.decreases-loop-at
decreases-loop-at l = length l.s - l.at
