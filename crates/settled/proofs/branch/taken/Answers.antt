use Rattle.settled.proofs.Takes.{sofar-start, sofar-stay, sofar-past, sofar-next, sofar-out}
use Rattle.settled.proofs.branch.taken.Goals as goal

pub loop-place-init : goal.loop-place-init
loop-place-init c = let a = c.args in sofar-start a.marks.now a.nodes.now a.text.now a.at

pub returns-in_default : goal.returns-in_default
returns-in_default c = let a = c.args in sofar-stay a.marks.now a.nodes.now a.text.now a.at _ c.loop-place.invariant _ c.in_default.is c.step_at-step.ensures

pub returns-then-next-place : goal.returns-then-next-place
returns-then-next-place c = let a = c.args in sofar-past a.marks.now a.nodes.now a.text.now a.at _ c.loop-place.invariant _ _ c.in-Some.is c.step_at-step.ensures c.if-next-place.true

pub loop-place-preserved : goal.loop-place-preserved
loop-place-preserved c = let a = c.args in sofar-next a.marks.now a.nodes.now a.text.now a.at _ c.loop-place.invariant _ _ c.in-Some.is c.step_at-step.ensures

pub returns : goal.returns
returns c = let a = c.args in sofar-out a.marks.now a.nodes.now a.text.now a.at _ c.loop-place.invariant c.loop-place-test.false
