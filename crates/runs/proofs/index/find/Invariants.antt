use Prim.Native.Nat.{◌-◌}
use Rattle.runs.specs.Pair.{pairs}
use Rattle.runs.proofs.Finds.{Finding}
use Rattle.runs.proofs.index.find.Given as goal

abbrev pub invariant-loop-lo : goal.invariant-loop-lo
invariant-loop-lo l = Finding l.s (pairs l.index) l.n l.p l.lo l.hi

abbrev pub decreases-loop-lo : goal.decreases-loop-lo
decreases-loop-lo l = l.hi - l.lo
