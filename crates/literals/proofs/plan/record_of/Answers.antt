use Rattle.literals.proofs.Made.{record_refused, record_planned}
use Rattle.literals.proofs.plan.record_of.Goals as goal

pub returns-then-many-count : goal.returns-then-many-count
returns-then-many-count c = let a = c.args in record_refused a.most a.row a.begin a.size a.node a.count _ c.clamp-range.ensures c.if-many-count.true

pub returns : goal.returns
returns c = let a = c.args in record_planned a.most a.row a.begin a.size a.node a.count _ c.clamp-range.ensures c.if-many-count.false
