use Rattle.runs.proofs.Pieces.{Seeking}
use Rattle.runs.proofs.ends.begin.Given as goal

abbrev pub invariant-loop-i : goal.invariant-loop-i
invariant-loop-i l = Seeking l.s l.from l.at l.i
