use Rattle.std.proofs.lemmas.Result.{err_from_is_err_and}
use Rattle.definitions.proofs.Variables.{variable-sort, variable-value}
use Rattle.definitions.proofs.variable.check_variable.Goals as goal

pub returns-in_err-row : goal.returns-in_err-row
returns-in_err-row c = let p = err_from_is_err_and c.from_residual.result c.from_residual.ensures.1 in rw (p.1, p.2) (variable-sort _ _ _ _ _ _ _ _ _ _ c.read_sort.ensures _ c.in_err-row.was)

pub returns : goal.returns
returns c = variable-value _ _ _ _ _ _ _ _ _ _ c.read_sort.ensures _ c.in_ok-row.was _ c.check_value-measured.ensures _ c.declared_as.ensures
