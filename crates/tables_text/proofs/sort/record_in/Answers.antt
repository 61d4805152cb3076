use native.Mathlib.Omega.{arith}
use Rattle.tables_text.proofs.Cuts.{end_le}
use Rattle.tables_text.specs.Parse.{space}
use Rattle.tables_text.proofs.Fields.{fielding_start, fielding_end, fielding_other, fielding_on, fielding_room, fielding_step}
use Rattle.tables_text.proofs.sort.record_in.Goals as goal

pub loop-at-init : goal.loop-at-init
loop-at-init c = let a = c.args in fielding_start a.s.now a.fields.now a.before _ c.requires.0 c.end_at-first.ensures c.requires.1

pub slice_bounds-number_in-end : goal.slice_bounds-number_in-end
slice_bounds-number_in-end c = end_le space c.args.s.now _ _ (omega (arith, c.loop-at-test.true)) c.end_at-end.ensures

pub returns-in_err-number : goal.returns-in_err-number
returns-in_err-number c = let a = c.args in rw c.from_residual.ensures (fielding_other a.s.now a.fields.now a.before _ c.requires.0 c.end_at-first.ensures _ _ _ c.loop-at.invariant c.loop-at-test.true _ c.end_at-end.ensures _ c.number_in.ensures c.in_err-number.was)

pub overflow_add-fields : goal.overflow_add-fields
overflow_add-fields c = let a = c.args in omega (arith, fielding_room a.s.now a.fields.now a.before _ c.requires.0 c.end_at-first.ensures _ _ _ c.loop-at.invariant c.loop-at-test.true _ c.end_at-end.ensures _ c.number_in.ensures _ c.in_ok-number.was)

pub bounds-fields-before : goal.bounds-fields-before
bounds-fields-before c = let a = c.args in fielding_room a.s.now a.fields.now a.before _ c.requires.0 c.end_at-first.ensures _ _ _ c.loop-at.invariant c.loop-at-test.true _ c.end_at-end.ensures _ c.number_in.ensures _ c.in_ok-number.was

pub loop-at-smaller : goal.loop-at-smaller
loop-at-smaller c = let a = c.args in omega (arith, fielding_on a.s.now a.fields.now a.before _ c.requires.0 c.end_at-first.ensures _ _ _ c.loop-at.invariant c.loop-at-test.true _ c.end_at-end.ensures _ c.number_in.ensures _ c.in_ok-number.was, c.loop-at-test.true)

pub loop-at-preserved : goal.loop-at-preserved
loop-at-preserved c = let a = c.args in fielding_step a.s.now a.fields.now a.before _ c.requires.0 c.end_at-first.ensures _ _ _ c.loop-at.invariant c.loop-at-test.true _ c.end_at-end.ensures _ c.number_in.ensures _ c.in_ok-number.was

pub returns : goal.returns
returns c = let a = c.args in fielding_end a.s.now a.fields.now a.before _ c.requires.0 c.end_at-first.ensures _ _ _ c.loop-at.invariant c.loop-at-test.false
