use Rattle.std.proofs.Common.{ℕ, List, length, sym, ap, ◌∙◌, arith}
use Rattle.decimals.proofs.Counts.{count_most}
use Rattle.decimals.proofs.Texts.{signed-negative, signed-natural, length-decimal}
use Rattle.decimals.proofs.signed_length.Goals as goal

pub overflow_add-result : goal.overflow_add-result
overflow_add-result c = record { fits = omega (arith, count_most c.unsigned_abs.result, c.digit_count-digits.ensures) }

pub returns-then-number-lt0 : goal.returns-then-number-lt0
returns-then-number-lt0 c = let e = signed-negative c.args.number c.unsigned_abs.result c.ranges.number c.if-number-lt0.true c.unsigned_abs.ensures.value in omega (arith, ap (λ (l : List ℕ). length l) e, length-decimal c.unsigned_abs.result, c.digit_count-digits.ensures)

pub returns-else-number-lt0 : goal.returns-else-number-lt0
returns-else-number-lt0 c = c.digit_count-digits.ensures ∙ sym (length-decimal c.unsigned_abs.result) ∙ ap (λ (l : List ℕ). length l) (signed-natural c.args.number c.unsigned_abs.result c.ranges.number c.if-number-lt0.false c.unsigned_abs.ensures.value)
