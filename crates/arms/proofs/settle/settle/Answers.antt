use Rattle.arms.proofs.Settles.{settles-behind, settles-past, settles-lines}
use Rattle.arms.proofs.settle.settle.Goals as goal

pub returns-then-end-start : goal.returns-then-end-start
returns-then-end-start c = settles-behind _ _ _ c.if-end-start.true _ _

pub returns-then-out-end : goal.returns-then-out-end
returns-then-out-end c = settles-past _ _ _ c.if-out-end.true _ _

pub returns : goal.returns
returns c = settles-lines _ _ _ c.if-end-start.false c.if-out-end.false c.well_formed.1.0.0 _ _ _ c.line_up-count.auto.run c.line_up-count.ensures c.plus.ensures
