use Rattle.literals.proofs.Forms.{expect_any, expect_row, expect_none}
use Rattle.literals.proofs.form.expect_in.Goals as goal

pub returns-in_default : goal.returns-in_default
returns-in_default c = let a = c.args in expect_any a.sorts.now a.expected a.form c.in_default.is

pub returns-in-Some-inside_row : goal.returns-in-Some-inside_row
returns-in-Some-inside_row c = let a = c.args in expect_row a.sorts.now a.expected a.form _ c.in-Some.is c.inside_row.result c.inside_row.ensures _ c.in-Some-inside_row.is

pub returns-in-None : goal.returns-in-None
returns-in-None c = let a = c.args in expect_none a.sorts.now a.expected a.form _ c.in-Some.is c.inside_row.result c.inside_row.ensures c.in-None.is
