use Prim.Native.Nat.{◌+◌, ◌-◌}
use lib.ListN.{length}
use Rattle.runs.proofs.Knits.{Knitting}
use Rattle.runs.proofs.merges.knit.Given as goal

abbrev pub invariant-loop-i : goal.invariant-loop-i
invariant-loop-i l = Knitting l.last l.a l.initial.s l.s l.i l.j l.w

abbrev pub decreases-loop-i : goal.decreases-loop-i
decreases-loop-i l = length l.a + length l.initial.s - (l.i + l.j)
