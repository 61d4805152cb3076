use Rattle.script.proofs.Texts.{writing_step, writing_end}
use Rattle.script.proofs.pieces.put_all.Goals as goal

pub loop-piece-preserved : goal.loop-piece-preserved
loop-piece-preserved c = writing_step _ _ _ _ _ _ _ _ _ c.loop-piece-test.true c.loop-piece.invariant c.put-to.ensures

pub returns : goal.returns
returns c = writing_end _ _ _ _ _ _ c.loop-piece-test.false c.loop-piece.invariant
