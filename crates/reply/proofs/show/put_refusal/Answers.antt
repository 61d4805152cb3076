use native.Mathlib.Omega.{arith}
use Rattle.reply.proofs.Lines.{refusal-short, refusal-put, digits-fit}
use Rattle.reply.proofs.show.put_refusal.Goals as goal

pub overflow_add-need : goal.overflow_add-need
overflow_add-need c = record { fits = omega (arith, digits-fit _ _ c.digit_count.ensures) }

pub overflow_add-need-2 : goal.overflow_add-need-2
overflow_add-need-2 c = record { fits = omega (arith, digits-fit _ _ c.digit_count.ensures, digits-fit _ _ c.digit_count-2.ensures) }

pub returns-then-out-need : goal.returns-then-out-need
returns-then-out-need c = refusal-short c.args.why _ _ _ _ c.number-number.ensures c.detail-detail.ensures c.digit_count.ensures c.digit_count-2.ensures _ c.if-out-need.true

pub returns : goal.returns
returns c = refusal-put c.args.why _ _ _ _ c.number-number.ensures c.detail-detail.ensures c.digit_count.ensures c.digit_count-2.ensures c.if-out-need.false c.put-one.ensures c.write_number-two.ensures c.put-three.ensures c.write_number-four.ensures c.put.ensures
