use Rattle.runs.proofs.Finds.{finding_start, finding_up, finding_down, finding_end}
use Rattle.runs.proofs.index.find.Goals as goal

pub loop-lo-init : goal.loop-lo-init
loop-lo-init c = search (finding_start)

pub loop-lo-preserved-then-below : goal.loop-lo-preserved-then-below
loop-lo-preserved-then-below c = finding_up _ _ _ _ _ _ c.loop-lo.invariant c.loop-lo-test.true _ c.place-q.ensures.same _ c.below.ensures c.if-below.true

pub loop-lo-preserved : goal.loop-lo-preserved
loop-lo-preserved c = finding_down _ _ _ _ _ _ c.loop-lo.invariant c.loop-lo-test.true _ c.place-q.ensures.same _ c.below.ensures c.if-below.false

pub returns : goal.returns
returns c = search (finding_end)
