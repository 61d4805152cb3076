use native.Mathlib.Omega.{arith}
use Rattle.tables_text.proofs.SortWalks.{sorted-past, sorted-other, sorted-plain, sorted-starts, sorted-entity, sorted-fine, sorted_record}
use Rattle.tables_text.proofs.sorts.sort_line.Goals as goal

pub returns-then-text-end : goal.returns-then-text-end
returns-then-text-end c = let a = c.args in sorted-past a.text.now _ _ a.table.now _ a.fields.now _ c.requires c.end_at-end.ensures c.if-text-end.true

pub put_row-requires : goal.put_row-requires
put_row-requires c = c.requires.room

pub overflow_sub-end : goal.overflow_sub-end
overflow_sub-end c = let a = c.args in omega (arith, sorted-starts a.text.now _ _ a.table.now _ a.fields.now _ c.requires c.end_at-end.ensures c.if-text-end.false _ c.form_of.ensures c.in-Entity.is)

pub overflow_sub-end-in-Entity : goal.overflow_sub-end-in-Entity
overflow_sub-end-in-Entity c = let a = c.args in omega (arith, sorted-starts a.text.now _ _ a.table.now _ a.fields.now _ c.requires c.end_at-end.ensures c.if-text-end.false _ c.form_of.ensures c.in-Entity.is)

pub put_row-requires-in-Entity : goal.put_row-requires-in-Entity
put_row-requires-in-Entity c = c.requires.room

pub record_line-requires : goal.record_line-requires
record_line-requires c = let a = c.args in sorted-fine a.text.now _ _ a.table.now _ a.fields.now _ c.requires c.end_at-end.ensures c.if-text-end.false _ c.form_of.ensures c.in-Record.is

pub returns-in-Plain : goal.returns-in-Plain
returns-in-Plain c = let a = c.args in sorted-plain a.text.now _ _ a.table.now _ a.fields.now _ c.requires c.end_at-end.ensures c.if-text-end.false _ c.form_of.ensures _ _ c.in-Plain.is _ c.put_row.ensures

pub returns-in-Entity : goal.returns-in-Entity
returns-in-Entity c = let a = c.args in sorted-entity a.text.now _ _ a.table.now _ a.fields.now _ c.requires c.end_at-end.ensures c.if-text-end.false _ c.form_of.ensures c.in-Entity.is _ c.put_row-in-Entity.ensures

pub returns-in-Record : goal.returns-in-Record
returns-in-Record c = let a = c.args in sorted_record a.text.now _ _ a.table.now _ a.fields.now _ c.requires c.end_at-end.ensures c.if-text-end.false _ c.form_of.ensures c.in-Record.is _ _ _ c.record_line.ensures

pub returns-in-Other : goal.returns-in-Other
returns-in-Other c = let a = c.args in sorted-other a.text.now _ _ a.table.now _ a.fields.now _ c.requires c.end_at-end.ensures c.if-text-end.false _ c.form_of.ensures c.in-Other.is
