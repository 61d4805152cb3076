use Rattle.std.proofs.Common.{rules}
use Rattle.tables.specs.Right.{right_variable, alone}
use Rattle.tables.proofs.Tabled.{table-fails, table-rest}
use Rattle.tables.proofs.check.check_variables.Goals as goal

pub returns-then-rows_pass : goal.returns-then-rows_pass
returns-then-rows_pass c =
    let a = c.args in
    table-rest a.variables.now (right_variable a.variables.now a.names.now a.sorts) (alone a.names.now a.variables.now) _ (c.rows_pass.ensures (right_variable a.variables.now a.names.now a.sorts) (λ i r h p. search rules)) c.if-rows_pass.true _ c.are_alone.ensures

pub returns-else-rows_pass : goal.returns-else-rows_pass
returns-else-rows_pass c =
    let a = c.args in
    table-fails a.variables.now (right_variable a.variables.now a.names.now a.sorts) (alone a.names.now a.variables.now) _ (c.rows_pass.ensures (right_variable a.variables.now a.names.now a.sorts) (λ i r h p. search rules)) c.if-rows_pass.false
