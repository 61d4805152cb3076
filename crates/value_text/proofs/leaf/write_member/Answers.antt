use Rattle.value_text.proofs.Leaves.{member-text}
use Rattle.value_text.proofs.leaf.write_member.Goals as goal

pub returns : goal.returns
returns c = let a = c.args in member-text a.members.now a.names.now _ _ a.row _ _ _ _ c.clamp-range.result c.word-entity.ensures c.word.ensures c.word-2.ensures c.clamp-range.ensures c.write_entity.ensures
