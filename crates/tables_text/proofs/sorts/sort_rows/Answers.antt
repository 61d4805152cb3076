use Rattle.tables_text.proofs.SortWalks.{sorting_start, sorting_full, sorting_fine, sorting_stop, sorting_step}
use borrow.Author.Rules.{rules}
use Rattle.tables_text.proofs.sorts.sort_rows.Goals as goal

pub loop-row-init : goal.loop-row-init
loop-row-init c = let a = c.args in sorting_start a.text.now a.table.now a.fields.now

pub sort_line-requires : goal.sort_line-requires
sort_line-requires c = let a = c.args in sorting_fine a.text.now a.table.now a.fields.now _ _ _ _ _ c.loop-row.invariant c.requires.0 c.requires.1 c.loop-row-test.true

pub returns-in_default : goal.returns-in_default
returns-in_default c = let a = c.args in sorting_stop a.text.now a.table.now a.fields.now _ _ _ _ _ c.loop-row.invariant c.requires.0 c.requires.1 c.loop-row-test.true _ _ _ c.sort_line.ensures c.in_default.is

pub loop-row-preserved : goal.loop-row-preserved
loop-row-preserved c = let a = c.args in sorting_step a.text.now a.table.now a.fields.now _ _ _ _ _ c.loop-row.invariant c.requires.0 c.requires.1 c.loop-row-test.true _ _ _ c.sort_line.ensures (search rules) _ _ c.in-Some.is

pub returns : goal.returns
returns c = let a = c.args in sorting_full a.text.now a.table.now a.fields.now _ _ _ _ _ c.loop-row.invariant c.requires.0 c.requires.1 c.loop-row-test.false
