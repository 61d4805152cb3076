use Rattle.std.proofs.Common.{ap, not}
use mathlib.Core.Path.{refl}
use Rattle.tables.specs.Layout.{count, name_at}
use Rattle.tables.proofs.Marks.{marked_start, slot-within, here-within, free_alone, marked-fails, marked_next, marked-end}
use Rattle.tables.proofs.alone.are_alone.Goals as goal

pub loop-row-init : goal.loop-row-init
loop-row-init c = let a = c.args in marked_start (name_at a.names.now a.rows.now) (count a.rows.now) _ c.count-row.ensures

pub bounds-marks-slot : goal.bounds-marks-slot
bounds-marks-slot c = let a = c.args in slot-within (name_at a.names.now a.rows.now) (count a.rows.now) _ _ c.name_slot-slot.ensures

pub is_alone-requires : goal.is_alone-requires
is_alone-requires c = (here-within _ _ _ _ c.loop-row.invariant c.loop-row-test.true, free_alone _ _ _ _ c.loop-row.invariant c.loop-row-test.true _ _ c.name_slot-slot.ensures refl)

pub returns-then-not-is_alone : goal.returns-then-not-is_alone
returns-then-not-is_alone c = marked-fails _ _ _ _ c.loop-row.invariant c.loop-row-test.true _ c.is_alone.ensures (ap not c.if-not-is_alone.true)

pub bounds-marks-slot-in-loop-row : goal.bounds-marks-slot-in-loop-row
bounds-marks-slot-in-loop-row c = let a = c.args in slot-within (name_at a.names.now a.rows.now) (count a.rows.now) _ _ c.name_slot-slot.ensures

pub loop-row-preserved : goal.loop-row-preserved
loop-row-preserved c = marked_next _ _ _ _ c.loop-row.invariant c.loop-row-test.true _ c.is_alone.ensures (ap not c.if-not-is_alone.false) _ c.name_slot-slot.ensures

pub returns : goal.returns
returns c = marked-end _ _ _ _ c.loop-row.invariant c.loop-row-test.false
