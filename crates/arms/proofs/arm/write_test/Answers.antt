use Rattle.arms.proofs.Whens.{test_of}
use Rattle.arms.proofs.arm.write_test.Goals as goal

pub returns : goal.returns
returns c = let a = c.args in test_of a.sorts.now a.members.now a.names.now a.nodes.now a.text.now a.offset a.size a.test _ _ _ _ _ _ _ _ c.write_when-one.ensures c.put.ensures c.put-two.ensures
