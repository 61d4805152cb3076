use Rattle.decimals.proofs.Puts.{digit-step, digits-end}
use Rattle.decimals.proofs.put_digits.Goals as goal

pub loop-at-preserved : goal.loop-at-preserved
loop-at-preserved c = digit-step _ _ _ _ _ _ _ c.loop-at.invariant c.requires.1 c.loop-at-test.true

pub returns : goal.returns
returns c = digits-end _ _ _ _ _ _ _ c.loop-at.invariant c.loop-at-test.false
