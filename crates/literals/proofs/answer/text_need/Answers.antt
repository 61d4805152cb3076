use native.Mathlib.Omega.{arith}
use Rattle.decimals.proofs.Counts.{count_most}
use Rattle.literals.proofs.answer.text_need.Goals as goal

pub overflow_add-digit_count : goal.overflow_add-digit_count
overflow_add-digit_count c = record { fits = omega (arith, count_most c.args.row, c.digit_count.ensures) }
