use Rattle.runs.proofs.Orders.{arranged-all}
use Rattle.runs.proofs.sorts.arrange.Goals as goal

pub returns : goal.returns
returns c = let a = c.args in arranged-all a.last a.s.now c.sort-n.new.s c.clear.new.s _ c.sort-n.auto.s c.sort-n.ensures c.clear.ensures
