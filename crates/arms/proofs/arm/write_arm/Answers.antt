use Rattle.arms.proofs.Whens.{arm-of}
use Rattle.arms.proofs.arm.write_arm.Goals as goal

pub returns : goal.returns
returns c = let a = c.args in arm-of a.sorts.now a.members.now a.names.now a.nodes.now a.text.now a.offset a.size a.test _ _ _ _ _ _ _ _ c.write_when-one.ensures c.put.ensures a.value c.write_inside-two.ensures
