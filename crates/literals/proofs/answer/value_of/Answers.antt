use Rattle.std.proofs.lemmas.Result.{err_from_is_err_and}
use Rattle.literals.proofs.Answers.{value_row, value-refused}
use Rattle.literals.proofs.answer.value_of.Goals as goal

pub returns : goal.returns
returns c = let a = c.args in value_row a.sorts.now a.wanted a.need a.is_set c.row_of.result c.row_of.ensures _ c.in_ok-row.was

pub returns-in_err-row : goal.returns-in_err-row
returns-in_err-row c = let a = c.args in let p = err_from_is_err_and c.from_residual.result c.from_residual.ensures.1 in rw (p.1, p.2) (value-refused a.sorts.now a.wanted a.need a.is_set c.row_of.result c.row_of.ensures _ c.in_err-row.was)
