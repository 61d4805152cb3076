use mathlib.Core.Path.{◌∙◌}
use native.Mathlib.Omega.{arith}
use Rattle.strings.proofs.Fours.{fours_short, fours_start, fours_other, fours_small, fours_step, fours_done}
use Rattle.strings.proofs.escape.four_digits.Goals as goal

pub returns-in_err-four : goal.returns-in_err-four
returns-in_err-four c = rw c.from_residual.ensures (let h = rw c.in_err-four.was at c.get.ensures.lookup in fours_short c.args.s.now c.args.start (omega (arith, h.0)))

pub loop-digit-init : goal.loop-digit-init
loop-digit-init c = fours_start c.args.s.now _ c.args.start c.in_ok-four.ensures.lookup.0.2

pub returns-then-worth-ge16 : goal.returns-then-worth-ge16
returns-then-worth-ge16 c = fours_other _ _ _ _ c.loop-digit.invariant (omega (arith, c.in_ok-four.ensures.lookup.0.3)) (omega (arith, c.in_ok-four.ensures.lookup.0.3)) _ c.digit_worth-worth.ensures c.if-worth-ge16.true

pub overflow_mul-value : goal.overflow_mul-value
overflow_mul-value c = record { fits = omega (arith, fours_small _ _ _ _ c.loop-digit.invariant (omega (arith, c.in_ok-four.ensures.lookup.0.3)) (omega (arith, c.in_ok-four.ensures.lookup.0.3)) _ c.digit_worth-worth.ensures) }

pub overflow_add-value : goal.overflow_add-value
overflow_add-value c = record { fits = omega (arith, fours_small _ _ _ _ c.loop-digit.invariant (omega (arith, c.in_ok-four.ensures.lookup.0.3)) (omega (arith, c.in_ok-four.ensures.lookup.0.3)) _ c.digit_worth-worth.ensures) }

pub loop-digit-preserved : goal.loop-digit-preserved
loop-digit-preserved c = fours_step _ _ _ _ c.loop-digit.invariant (omega (arith, c.in_ok-four.ensures.lookup.0.3)) (omega (arith, c.in_ok-four.ensures.lookup.0.3)) _ (c.from.ensures ∙ c.digit_worth-worth.ensures) (omega arith)

pub returns : goal.returns
returns c = fours_done _ _ _ _ c.loop-digit.invariant (omega (arith, c.in_ok-four.ensures.lookup.0.3)) (omega (arith, c.in_ok-four.ensures.lookup.0.3)) (omega (arith, c.in_ok-four.ensures.lookup.0.3))
