use Rattle.tokens.proofs.Digits.{running_start, running_ends, running_stops, running_goes}
use Rattle.tokens.proofs.lexeme.run_end.Goals as goal

pub loop-at-init : goal.loop-at-init
loop-at-init c = running_start _ _ _ c.requires

pub returns-then-base-worth : goal.returns-then-base-worth
returns-then-base-worth c = let a = c.args in running_stops a.s.now a.start c.base-base.result c.loop-at.at c.loop-at.invariant a.radix c.base-base.ensures c.loop-at-test.true _ c.digit_worth-worth.ensures c.if-base-worth.true

pub loop-at-preserved : goal.loop-at-preserved
loop-at-preserved c = let a = c.args in running_goes a.s.now a.start c.base-base.result c.loop-at.at c.loop-at.invariant a.radix c.base-base.ensures c.loop-at-test.true _ c.digit_worth-worth.ensures c.if-base-worth.false

pub returns : goal.returns
returns c = let a = c.args in running_ends a.s.now a.start c.base-base.result c.loop-at.at c.loop-at.invariant a.radix c.base-base.ensures c.loop-at-test.false
