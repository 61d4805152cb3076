use Rattle.runs.proofs.Joins.{met-later, met-earlier}
use Rattle.runs.proofs.merges.meet.Goals as goal

pub returns-then-last : goal.returns-then-last
returns-then-last c = met-later _ _ _ _ _ _ c.requires c.if-last.true c.draw.ensures

pub returns : goal.returns
returns c = met-earlier _ _ _ _ _ _ c.requires _ c.if-last.false c.after-e.ensures c.draw-2.ensures
