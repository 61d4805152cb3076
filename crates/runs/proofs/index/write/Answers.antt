use Rattle.runs.proofs.Listings.{writing_start, writing-room, writing-next, writing-end}
use Rattle.runs.proofs.index.write.Goals as goal

pub loop-i-init : goal.loop-i-init
loop-i-init c = search (writing_start)

pub place-p-requires : goal.place-p-requires
place-p-requires c = search (writing-room)

pub loop-i-preserved : goal.loop-i-preserved
loop-i-preserved c = writing-next _ _ _ _ _ _ _ _ _ c.loop-i.invariant c.loop-i-test.true c.place-p.ensures.same c.if-s-p.false c.if-out-w.false c.lay-w.auto.s c.lay-w.ensures

pub returns : goal.returns
returns c = search (writing-end)
