use Rattle.runs.proofs.Pieces.{Sofar}
use Rattle.runs.proofs.ends.after.Given as goal

abbrev pub invariant-loop-i : goal.invariant-loop-i
invariant-loop-i l = Sofar l.s l.p l.i
