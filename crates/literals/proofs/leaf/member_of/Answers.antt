use Rattle.literals.proofs.Words.{member-value}
use Rattle.literals.proofs.leaf.member_of.Goals as goal

pub returns : goal.returns
returns c = let a = c.args in member-value a.members.now a.most a.row c.word-entity.result c.word.result c.word-2.result c.clamp-range.result c.text_need-need.result c.word-entity.ensures c.word.ensures c.word-2.ensures c.clamp-range.ensures c.text_need-need.ensures
