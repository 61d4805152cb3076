use Rattle.value_text.proofs.Leaves.{extension-text}
use borrow.Author.Rules.{rules}
use Rattle.value_text.proofs.leaf.write_extension.Goals as goal

pub returns : goal.returns
returns c = let a = c.args in extension-text a.low a.kind c.signed_low-number.result c.letter_of.result (search rules) c.signed_low-number.ensures c.letter_of.ensures c.put-one.ensures c.write_integer.ensures
