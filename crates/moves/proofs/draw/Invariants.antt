use Rattle.moves.proofs.Draws.{Drawing}
use Rattle.moves.proofs.draw.Given as goal

abbrev pub invariant-loop-i : goal.invariant-loop-i
invariant-loop-i l = Drawing l.initial.s l.w l.j l.n l.s l.i
