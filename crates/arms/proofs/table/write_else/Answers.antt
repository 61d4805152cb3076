use Rattle.arms.proofs.Tables.{else_of}
use Rattle.arms.proofs.table.write_else.Goals as goal

pub returns : goal.returns
returns c = let a = c.args in else_of a.sorts.now a.members.now a.names.now a.nodes.now a.text.now a.at _ _ _ _ _ _ _ _ c.put-one.ensures c.write_inside-two.ensures c.put.ensures
