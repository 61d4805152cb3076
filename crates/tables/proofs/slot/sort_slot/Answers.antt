use native.Mathlib.Omega.{arith}
use Rattle.tables.proofs.Slots.{slot-named, slot-kind, slot-number}
use Rattle.tables.proofs.slot.sort_slot.Goals as goal

pub name_slot-requires : goal.name_slot-requires
name_slot-requires c = let h = c.next_slot.ensures in omega (arith, h)

pub returns-then-has_name : goal.returns-then-has_name
returns-then-has_name c = let a = c.args in slot-named a.sorts.now a.names.now a.row _ c.word-kind.ensures _ c.has_name.ensures c.if-has_name.true _ _ c.next_slot.ensures c.name_slot.ensures

pub returns-then-kind-lt-BIT_VEC : goal.returns-then-kind-lt-BIT_VEC
returns-then-kind-lt-BIT_VEC c = let a = c.args in slot-kind a.sorts.now a.names.now a.row _ c.word-kind.ensures _ c.has_name.ensures c.if-has_name.false _ c.next_slot-slot.ensures c.if-kind-lt-BIT_VEC.true

pub next_slot-requires-2 : goal.next_slot-requires-2
next_slot-requires-2 c = let h = c.next_slot-slot.ensures in omega (arith, h)

pub returns : goal.returns
returns c = let a = c.args in slot-number a.sorts.now a.names.now a.row _ c.word-kind.ensures _ c.has_name.ensures c.if-has_name.false _ c.next_slot-slot.ensures c.if-kind-lt-BIT_VEC.false _ _ c.word.ensures c.next_slot-2.ensures
