use Rattle.std.proofs.lemmas.Result.{err_from_is_err_and}
use Rattle.definitions.proofs.Measures.{value-other, value_same, value-refused}
use Rattle.definitions.proofs.measure.value_of.Goals as goal

pub returns-in_err-literal : goal.returns-in_err-literal
returns-in_err-literal c = let p = err_from_is_err_and c.from_residual.result c.from_residual.ensures.1 in rw (p.1, p.2) (value-refused _ _ _ c.in_err-literal.was)

pub returns-then-literal-wanted : goal.returns-then-literal-wanted
returns-then-literal-wanted c = value-other _ _ _ _ _ c.in_ok-literal.was c.if-literal-wanted.true

pub returns : goal.returns
returns c = value_same _ _ _ _ _ c.in_ok-literal.was c.if-literal-wanted.false
