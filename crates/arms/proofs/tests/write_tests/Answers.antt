use mathlib.Core.Path.{refl, ◌∙◌}
use native.Mathlib.Omega.{arith}
use Rattle.arms.proofs.Disjuncts.{tests-start, tests-end, tests-next}
use Rattle.arms.proofs.tests.write_tests.Goals as goal

pub loop-init : goal.loop-init
loop-init c = let a = c.args in (omega arith, refl, refl, tests-start a.sorts.now a.members.now a.names.now a.nodes.now a.text.now a.offset a.size a.first a.count a.out.now a.place)

pub loop-preserved : goal.loop-preserved
loop-preserved c = let a = c.args in (omega arith, c.write_test-to.auto.scratch ∙ c.loop.invariant.1, c.write_test-to.auto.out ∙ c.loop.invariant.2, tests-next a.sorts.now a.members.now a.names.now a.nodes.now a.text.now a.offset a.size a.first a.count a.out.now a.place _ _ _ _ c.loop.invariant.3 c.loop-test.true _ _ c.write_test-to.ensures _ c.after-at.ensures)

pub returns : goal.returns
returns c = let a = c.args in tests-end a.sorts.now a.members.now a.names.now a.nodes.now a.text.now a.offset a.size a.first a.count a.out.now a.place _ _ _ _ c.loop.invariant.3 c.loop-test.false
