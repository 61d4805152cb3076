use native.Mathlib.Omega.{arith}
use lib.ListN.{length-set}
use Rattle.decimals.proofs.Texts.{negative_fits, negative-short, negative-put}
use Rattle.decimals.proofs.write_negative.Goals as goal

pub overflow_add-need : goal.overflow_add-need
overflow_add-need c = record { fits = omega (arith, negative_fits c.args.size c.digit_count-need.result c.args.out.now c.digit_count-need.ensures) }

pub returns-then-out-need : goal.returns-then-out-need
returns-then-out-need c = let a = c.args in negative-short a.size c.digit_count-need.result a.out.now c.digit_count-need.ensures c.if-out-need.true

pub put_digits-requires : goal.put_digits-requires
put_digits-requires c = (omega arith, simp length-set (omega arith))

pub returns : goal.returns
returns c = let a = c.args in negative-put a.size c.digit_count-need.result a.out.now c.digit_count-need.ensures _ c.if-out-need.false c.put_digits.ensures
