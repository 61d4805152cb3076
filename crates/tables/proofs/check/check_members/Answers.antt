use Rattle.std.proofs.Common.{rules}
use Rattle.tables.specs.Right.{right_member, alone}
use Rattle.tables.proofs.Tabled.{table-fails, table-rest}
use Rattle.tables.proofs.check.check_members.Goals as goal

pub returns-then-rows_pass : goal.returns-then-rows_pass
returns-then-rows_pass c =
    let a = c.args in
    table-rest a.members.now (right_member a.members.now a.sorts.now a.names.now) (alone a.names.now a.members.now) _ (c.rows_pass.ensures (right_member a.members.now a.sorts.now a.names.now) (λ i r h p. search rules)) c.if-rows_pass.true _ c.are_alone.ensures

pub returns-else-rows_pass : goal.returns-else-rows_pass
returns-else-rows_pass c =
    let a = c.args in
    table-fails a.members.now (right_member a.members.now a.sorts.now a.names.now) (alone a.names.now a.members.now) _ (c.rows_pass.ensures (right_member a.members.now a.sorts.now a.names.now) (λ i r h p. search rules)) c.if-rows_pass.false
