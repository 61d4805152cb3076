use Rattle.std.proofs.lemmas.Result.{err_from_is_err_and}
use Rattle.literals.proofs.Fields.{field-other, field-takes, field-refused}
use Rattle.literals.proofs.decode.field_of.Goals as goal

pub returns-then-found-wanted : goal.returns-then-found-wanted
returns-then-found-wanted c = field-other _ _ _ c.in_ok-found.was c.if-found-wanted.true

pub returns : goal.returns
returns c = field-takes _ _ _ c.in_ok-found.was c.if-found-wanted.false

pub returns-in_err-found : goal.returns-in_err-found
returns-in_err-found c = let p = err_from_is_err_and c.from_residual.result c.from_residual.ensures.1 in rw (p.1, p.2) (field-refused _ _ _ c.in_err-found.was)
