use native.Mathlib.Omega.{arith}
use Rattle.utf8.proofs.Scans.{passed_start, passed-within, passed-step, passed-stuck, passed-end}
use Rattle.utf8.proofs.is_utf8.Goals as goal

pub loop-i-init : goal.loop-i-init
loop-i-init c = passed_start _

pub returns-in_default : goal.returns-in_default
returns-in_default c = passed-stuck _ _ c.loop-i-test.true c.in_default.ensures c.loop-i.invariant

pub overflow_add-i : goal.overflow_add-i
overflow_add-i c = omega (arith, passed-within _ _ _ c.loop-i-test.true c.in-Some.ensures.1)

pub loop-i-smaller : goal.loop-i-smaller
loop-i-smaller c = omega (arith, c.in-Some.ensures.0, passed-within _ _ _ c.loop-i-test.true c.in-Some.ensures.1)

pub loop-i-preserved : goal.loop-i-preserved
loop-i-preserved c = passed-step _ _ _ c.loop-i-test.true c.in-Some.ensures.1 c.in-Some.ensures.0 c.loop-i.invariant

pub returns : goal.returns
returns c = passed-end _ _ c.loop-i-test.false c.loop-i.invariant
