use Rattle.tables.proofs.Sorts.{row-past, row_in}
use Rattle.tables.proofs.sort.sort_at.Goals as goal

pub returns-then-count-row : goal.returns-then-count-row
returns-then-count-row c = let a = c.args in row-past a.sorts.now a.row _ c.count.ensures c.if-count-row.true

pub returns : goal.returns
returns c = let a = c.args in row_in a.sorts.now a.row _ c.count.ensures c.if-count-row.false _ _ _ _ c.word.ensures c.word-2.ensures c.word-3.ensures c.sort_of.ensures
