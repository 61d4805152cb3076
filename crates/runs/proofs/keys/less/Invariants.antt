use Prim.Native.Nat.{◌-◌}
use lib.ListN.{length}
use Rattle.runs.proofs.Words.{Level}
use Rattle.runs.proofs.keys.less.Given as goal

abbrev pub invariant-loop-p : goal.invariant-loop-p
invariant-loop-p l = Level l.a l.b l.p l.q l.i l.j

abbrev pub decreases-loop-p : goal.decreases-loop-p
decreases-loop-p l = length l.a - l.i
