use Rattle.definitions.proofs.Functions.{body-other, body-tests}
use Rattle.definitions.proofs.body.check_body.Goals as goal

pub returns-then-not-is_bool : goal.returns-then-not-is_bool
returns-then-not-is_bool c = body-other _ _ _ _ _ _ _ _ _ _ _ _ c.tests_at.ensures _ _ c.in-Some.is _ c.sort_at.ensures _ c.is_bool.ensures c.if-not-is_bool.true

pub returns : goal.returns
returns c = body-tests _ _ _ _ _ _ _ _ _ _ _ _ c.tests_at.ensures _ _ c.in-Some.is _ c.sort_at.ensures _ c.is_bool.ensures c.if-not-is_bool.false _ c.check_tests.ensures
