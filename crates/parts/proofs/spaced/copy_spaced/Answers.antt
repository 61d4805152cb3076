use Rattle.parts.proofs.Spaces.{spacing_step, spacing_end}
use Rattle.parts.proofs.spaced.copy_spaced.Goals as goal

pub loop-at-preserved : goal.loop-at-preserved
loop-at-preserved c = let a = c.args in spacing_step a.text.now a.out.now _ _ c.loop-at.invariant c.loop-at-test.true _ c.space_for_feed.ensures

pub returns : goal.returns
returns c = let a = c.args in spacing_end a.text.now a.out.now _ _ c.loop-at.invariant c.loop-at-test.false
