use native.Mathlib.Omega.{arith}
use Rattle.tables_text.proofs.SortWalks.{record_fits, record_other, RecordRow, record_count}
use Rattle.tables_text.proofs.sorts.record_line.Goals as goal

pub slice_bounds-record_in-count : goal.slice_bounds-record_in-count
slice_bounds-record_in-count c = omega (arith, c.requires.starts)

pub slice_bounds-record_in-start : goal.slice_bounds-record_in-start
slice_bounds-record_in-start c = omega (arith, c.requires.starts)

pub slice_bounds-record_in-end : goal.slice_bounds-record_in-end
slice_bounds-record_in-end c = omega (arith, c.requires.ends)

pub record_in-requires : goal.record_in-requires
record_in-requires c = let a = c.args in record_fits a.text.now _ _ a.table.now _ a.fields.now _ c.requires

pub returns-in_err-name : goal.returns-in_err-name
returns-in_err-name c = let a = c.args in rw c.from_residual.ensures (record_other a.text.now _ _ a.table.now _ a.fields.now _ c.requires _ _ c.record_in.ensures c.in_err-name.was)

pub put_row-requires : goal.put_row-requires
put_row-requires c = c.requires.fine.room

pub overflow_add-result-2 : goal.overflow_add-result-2
overflow_add-result-2 c = let a = c.args in omega (arith, record_count a.text.now _ _ a.table.now _ a.fields.now _ c.requires _ _ c.record_in.ensures _ _ c.in_ok-name.was)

pub returns : goal.returns
returns c = let a = c.args in RecordRow a.text.now _ _ a.table.now _ a.fields.now _ c.requires _ _ c.record_in.ensures _ _ c.in_ok-name.was _ c.put_row.ensures
