use native.Mathlib.Omega.{arith}
use Rattle.std.proofs.lemmas.Result.{err_from_is_err_and}
use Rattle.definitions.proofs.Tests.{tests-start, tests-end, tests-refused, tests-next}
use Rattle.definitions.proofs.body.check_tests.Goals as goal

pub loop-init : goal.loop-init
loop-init c = tests-start _ _ _ _ _ _ _ _ _ _ _

pub returns-in_err-need : goal.returns-in_err-need
returns-in_err-need c =
    let p = err_from_is_err_and c.from_residual.result c.from_residual.ensures.1 in
    rw (p.1, p.2) (tests-refused _ _ _ _ _ _ _ _ _ _ _ _ _ _ c.loop.invariant (omega arith) _ c.check_test.ensures _ c.in_err-need.was)

pub loop-preserved : goal.loop-preserved
loop-preserved c = tests-next _ _ _ _ _ _ _ _ _ _ _ _ _ _ c.loop.invariant (omega arith) _ c.check_test.ensures _ c.in_ok-need.was _ c.plus-total.ensures _ c.after-at.ensures

pub returns : goal.returns
returns c = tests-end _ _ _ _ _ _ _ _ _ _ _ _ _ _ c.loop.invariant (omega arith) _ c.plus.ensures
