use Rattle.literals.proofs.Unions.{unset, set_so, join_rows, join_first, join_second, join_sets}
use Rattle.literals.proofs.form.union_of.Goals.{then-not-left-via-then-not-left, then-not-left-via-else-not-left+then-not-right}
use Rattle.literals.proofs.form.union_of.Goals as goal

pub returns-then-left-right : goal.returns-then-left-right
returns-then-left-right c = let a = c.args in join_rows a.left.row a.left.need a.right.row a.right.need a.left.is_set a.right.is_set c.if-left-right.true

pub returns-then-not-left : goal.returns-then-not-left
returns-then-not-left c = let a = c.args in elim c.then-not-left.branch [ then-not-left-via-then-not-left w ↦ join_first a.left.row a.left.need a.right.row a.right.need a.left.is_set a.right.is_set c.if-left-right.false (unset _ w.if-not-left.true) | then-not-left-via-else-not-left+then-not-right w ↦ join_second a.left.row a.left.need a.right.row a.right.need a.left.is_set a.right.is_set c.if-left-right.false (set_so _ w.if-not-left.false) (unset _ w.if-not-right.true) ]

pub returns : goal.returns
returns c = let a = c.args in join_sets a.left.row a.left.need a.right.row a.right.need a.left.is_set a.right.is_set c.if-left-right.false (set_so _ c.if-not-left.false) (set_so _ c.if-not-right.false) c.union_need.result c.union_need.ensures
