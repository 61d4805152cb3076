use Rattle.shapes.proofs.Heads.{shape-none, shape-empty, shape-head}
use Rattle.shapes.proofs.shape.shape_at.Goals as goal

pub returns-in_default : goal.returns-in_default
returns-in_default c = shape-none _ _ _ _ c.list_at.ensures c.in_default.is

pub returns-then-count-eq0 : goal.returns-then-count-eq0
returns-then-count-eq0 c = shape-empty _ _ _ _ c.list_at.ensures _ c.in-Some.is c.if-count-eq0.true

pub returns : goal.returns
returns c = shape-head _ _ _ _ c.list_at.ensures _ c.in-Some.is c.if-count-eq0.false c.by_head.result c.by_head.ensures
