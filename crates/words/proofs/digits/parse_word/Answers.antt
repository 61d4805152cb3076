use Rattle.std.proofs.Common.{◌∙◌, arith}
use Rattle.words.proofs.WordRuns.{short-start, short_none, next_fits, short-next, short-end}
use Rattle.words.proofs.digits.parse_word.Goals as goal

pub loop-byte-init : goal.loop-byte-init
loop-byte-init c = short-start c.args.radix c.args.run.now c.requires.0

pub returns-then-base-digit : goal.returns-then-base-digit
returns-then-base-digit c = short_none _ _ _ _ _ _ c.loop-byte.invariant c.loop-byte-test.true (c.from-digit.ensures ∙ c.digit_worth.ensures) c.base-base.ensures c.if-base-digit.true

pub overflow_mul-number : goal.overflow_mul-number
overflow_mul-number c = omega (arith, next_fits _ _ _ _ _ _ c.loop-byte.invariant c.loop-byte-test.true (c.from-digit.ensures ∙ c.digit_worth.ensures) c.base-base.ensures c.if-base-digit.false c.requires.1)

pub overflow_add-number : goal.overflow_add-number
overflow_add-number c = omega (arith, next_fits _ _ _ _ _ _ c.loop-byte.invariant c.loop-byte-test.true (c.from-digit.ensures ∙ c.digit_worth.ensures) c.base-base.ensures c.if-base-digit.false c.requires.1)

pub loop-byte-preserved : goal.loop-byte-preserved
loop-byte-preserved c = short-next _ _ _ _ _ _ c.loop-byte.invariant c.loop-byte-test.true (c.from-digit.ensures ∙ c.digit_worth.ensures) c.base-base.ensures c.if-base-digit.false c.requires.1

pub returns : goal.returns
returns c = short-end _ _ _ _ c.loop-byte.invariant c.loop-byte-test.false
