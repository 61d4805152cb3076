use Rattle.value_text.proofs.Leaves.{head-text}
use Rattle.value_text.proofs.leaf.write_head.Goals as goal

pub returns : goal.returns
returns c = let a = c.args in head-text a.letters.now a.number a.last c.put-one.ensures c.write_number-two.ensures c.put.ensures
