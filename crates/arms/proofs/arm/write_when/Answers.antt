use Rattle.arms.proofs.Whens.{when_none, when_key}
use Rattle.arms.proofs.arm.write_when.Goals as goal

pub returns : goal.returns
returns c = let a = c.args in when_key a.sorts.now a.members.now a.names.now a.nodes.now a.text.now a.offset a.size a.test _ c.key_at.ensures _ c.in-Some.is _ _ _ _ _ _ _ _ c.put-one.ensures c.write_inside-two.ensures c.put.ensures

pub returns-in_default : goal.returns-in_default
returns-in_default c = let a = c.args in when_none a.sorts.now a.members.now a.names.now a.nodes.now a.text.now a.offset a.size a.test _ c.key_at.ensures c.in_default.is _ _
