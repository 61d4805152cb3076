use Prim.Native.Nat.{◌-◌}
use lib.ListN.{length}
use Rattle.reader.proofs.Holds.{Holds}
use Rattle.reader.proofs.write.write_tokens.Given as goal

abbrev pub invariant-loop-at : goal.invariant-loop-at
invariant-loop-at l = Holds l.s l.initial.nodes l.initial.text l.initial.stack l.scan l.at l.nodes l.text l.stack

abbrev pub decreases-loop-at : goal.decreases-loop-at
decreases-loop-at l = length l.s - l.at
