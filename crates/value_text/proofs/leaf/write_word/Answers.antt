use Rattle.value_text.proofs.Leaves.{range_holds, word_as}
use Rattle.value_text.proofs.leaf.write_word.Goals as goal

pub returns : goal.returns
returns c = let a = c.args in word_as a.members.now a.names.now _ _ _ _ _ (range_holds a.text.now _ _ _ c.clamp-range.ensures) c.write_name.ensures
