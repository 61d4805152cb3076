use Rattle.literals.proofs.Words.{string-value}
use Rattle.literals.proofs.leaf.string_of.Goals as goal

pub returns : goal.returns
returns c = let a = c.args in string-value a.sorts.now c.plus-need.result c.value_of.result a.size c.plus.result c.plus.ensures c.plus-need.ensures c.value_of.ensures
