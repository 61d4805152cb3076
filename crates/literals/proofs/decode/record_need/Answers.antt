use native.Mathlib.Omega.{arith}
use Rattle.decimals.proofs.Counts.{count_most}
use Rattle.literals.proofs.Fields.{record_none, record_some}
use Rattle.literals.proofs.decode.record_need.Goals as goal

pub overflow_add-frame : goal.overflow_add-frame
overflow_add-frame c = record { fits = omega (arith, count_most c.args.row, c.digit_count-frame.ensures) }

pub returns-then-total-eq0 : goal.returns-then-total-eq0
returns-then-total-eq0 c = record_none c.args.row _ c.args.total (omega (arith, c.digit_count-frame.ensures)) (count_most c.args.row) c.if-total-eq0.true

pub returns : goal.returns
returns c = let a = c.args in record_some a.row _ a.total (omega (arith, c.digit_count-frame.ensures)) (count_most a.row) c.if-total-eq0.false _ c.plus.ensures
