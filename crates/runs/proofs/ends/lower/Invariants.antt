use Prim.Native.Nat.{◌-◌}
use Rattle.runs.proofs.Lowers.{Halving}
use Rattle.runs.proofs.ends.lower.Given as goal

abbrev pub invariant-loop-lo : goal.invariant-loop-lo
invariant-loop-lo l = Halving l.s l.x l.from l.lo l.hi

abbrev pub decreases-loop-lo : goal.decreases-loop-lo
decreases-loop-lo l = l.hi - l.lo
