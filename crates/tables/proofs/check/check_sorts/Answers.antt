use Rattle.std.proofs.Common.{rules}
use Rattle.tables.specs.Right.{right_sort, alone_sort}
use Rattle.tables.proofs.Tabled.{table-fails, table-rest}
use Rattle.tables.proofs.check.check_sorts.Goals as goal

pub returns-then-rows_pass : goal.returns-then-rows_pass
returns-then-rows_pass c =
    let a = c.args in
    table-rest a.sorts.now (right_sort a.sorts.now a.fields.now a.names.now) (alone_sort a.sorts.now a.names.now) _ (c.rows_pass.ensures (right_sort a.sorts.now a.fields.now a.names.now) (λ i r h p. search rules)) c.if-rows_pass.true _ c.are_alone_sorts.ensures

pub returns-else-rows_pass : goal.returns-else-rows_pass
returns-else-rows_pass c =
    let a = c.args in
    table-fails a.sorts.now (right_sort a.sorts.now a.fields.now a.names.now) (alone_sort a.sorts.now a.names.now) _ (c.rows_pass.ensures (right_sort a.sorts.now a.fields.now a.names.now) (λ i r h p. search rules)) c.if-rows_pass.false
