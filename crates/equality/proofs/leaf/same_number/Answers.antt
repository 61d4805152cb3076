use Rattle.equality.proofs.Leaves.{number-words, number-kinds}
use borrow.Author.Rules.{rules}
use Rattle.equality.proofs.leaf.same_number.Goals as goal

pub returns-then-low-word : goal.returns-then-low-word
returns-then-low-word c = let a = c.args in number-words a.kind a.low a.other a.word (search rules) (search rules) c.if-low-word.true

pub returns : goal.returns
returns c = let a = c.args in number-kinds a.kind a.low a.other a.word c.if-low-word.false _ c.same_kind.ensures
