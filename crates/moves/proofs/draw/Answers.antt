use Rattle.moves.proofs.Draws.{drawing_start, drawing_next, drawing_end, drawing_none}
use Rattle.moves.proofs.draw.Goals as goal
use Rattle.moves.proofs.draw.Goals.{then-w-j+else-loop-i-test, else-w-j}

pub loop-i-init : goal.loop-i-init
loop-i-init c = search (drawing_start)

pub loop-i-preserved : goal.loop-i-preserved
loop-i-preserved c = search (drawing_next)

pub returns : goal.returns
returns c = elim c.if-w-j.branch [
  | then-w-j+else-loop-i-test w ↦ rw w.s-is (drawing_end _ _ _ _ _ _ w.loop-i.invariant w.loop-i-test.false)
  | else-w-j w ↦ rw w.s-is (drawing_none _ _ _ _ c.requires w.if-w-j.false)
]
