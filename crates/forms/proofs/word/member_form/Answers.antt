use Rattle.forms.proofs.Leaves.{member-words}
use Rattle.forms.proofs.word.member_form.Goals as goal

pub returns : goal.returns
returns c = let a = c.args in member-words a.members.now a.names.now a.row _ _ _ c.clamp-range.result c.word-entity.ensures c.word.ensures c.word-2.ensures c.clamp-range.ensures
