use Prim.Native.Nat.{◌-◌}
use lib.ListN.{length}
use Rattle.settled.proofs.Takes.{Sofar}
use Rattle.settled.proofs.branch.taken.Given as goal

abbrev pub invariant-loop-place : goal.invariant-loop-place
invariant-loop-place l = Sofar l.marks l.nodes l.text l.at l.place

abbrev pub decreases-loop-place : goal.decreases-loop-place
decreases-loop-place l = length l.nodes - l.place
