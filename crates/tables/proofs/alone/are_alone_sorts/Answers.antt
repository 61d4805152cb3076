use Rattle.std.proofs.Common.{ap, not}
use mathlib.Core.Path.{refl}
use mathlib.Core.List.{[]}
use Rattle.tables.specs.Layout.{count, sort_at}
use Rattle.tables.specs.Rules.{identity}
use Rattle.tables.specs.Right.{lent_sorts}
use Rattle.tables.proofs.Marks.{marked_start, slot-within, here-within, free_alone, marked-fails, marked_next, marked-end}
use Rattle.tables.proofs.alone.are_alone_sorts.Goals as goal

pub loop-row-init : goal.loop-row-init
loop-row-init c = let a = c.args in marked_start (λ k. identity (sort_at (lent_sorts a.sorts.now [] a.names.now) k)) (count a.sorts.now) _ c.count-row.ensures

pub bounds-marks-slot : goal.bounds-marks-slot
bounds-marks-slot c = let a = c.args in slot-within (λ k. identity (sort_at (lent_sorts a.sorts.now [] a.names.now) k)) (count a.sorts.now) _ _ c.sort_slot-slot.ensures

pub is_alone_sort-requires : goal.is_alone_sort-requires
is_alone_sort-requires c = (here-within _ _ _ _ c.loop-row.invariant c.loop-row-test.true, free_alone _ _ _ _ c.loop-row.invariant c.loop-row-test.true _ _ c.sort_slot-slot.ensures refl)

pub returns-then-not-is_alone_sort : goal.returns-then-not-is_alone_sort
returns-then-not-is_alone_sort c = marked-fails _ _ _ _ c.loop-row.invariant c.loop-row-test.true _ c.is_alone_sort.ensures (ap not c.if-not-is_alone_sort.true)

pub bounds-marks-slot-in-loop-row : goal.bounds-marks-slot-in-loop-row
bounds-marks-slot-in-loop-row c = let a = c.args in slot-within (λ k. identity (sort_at (lent_sorts a.sorts.now [] a.names.now) k)) (count a.sorts.now) _ _ c.sort_slot-slot.ensures

pub loop-row-preserved : goal.loop-row-preserved
loop-row-preserved c = marked_next _ _ _ _ c.loop-row.invariant c.loop-row-test.true _ c.is_alone_sort.ensures (ap not c.if-not-is_alone_sort.false) _ c.sort_slot-slot.ensures

pub returns : goal.returns
returns c = marked-end _ _ _ _ c.loop-row.invariant c.loop-row-test.false
