use Prim.Native.Nat.{◌+◌}
use native.Mathlib.Omega.{arith}
use Rattle.decimals.proofs.Counts.{count_most}
use Rattle.literals.proofs.Words.{bits-value}
use Rattle.literals.proofs.leaf.bits_of.Goals as goal

pub overflow_add-need : goal.overflow_add-need
overflow_add-need c = record { fits = omega (arith, count_most c.args.width, c.digit_count.ensures, c.hex_width.ensures) }

pub overflow_add-need-2 : goal.overflow_add-need-2
overflow_add-need-2 c = record { fits = omega (arith, count_most c.args.width, c.digit_count.ensures, c.hex_width.ensures) }

pub returns : goal.returns
returns c = let a = c.args in bits-value a.sorts.now (c.digit_count.result + c.hex_width.result + 3) c.value_of.result a.width (omega (arith, count_most a.width, c.digit_count.ensures, c.hex_width.ensures)) (omega (arith, c.digit_count.ensures, c.hex_width.ensures)) c.value_of.ensures
