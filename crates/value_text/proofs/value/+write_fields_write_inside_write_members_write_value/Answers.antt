use borrow.Enum.Refused.{opened}
use mathlib.Core.Path.{refl, ◌∙◌}
use native.Mathlib.Omega.{arith}
use Rattle.value_text.proofs.Fields.{left-start, left-next, left_end}
use Rattle.value_text.proofs.Sets.{members_else, members-one, members_nested, members-two}
use Rattle.value_text.proofs.Apps.{inside_past, inside-tail}
use Rattle.value_text.proofs.Values.{value_nested, value-whole, value-fields, value_set}
use Rattle.value_text.proofs.value.+write_fields_write_inside_write_members_write_value.Goals as goal

pub write_fields-loop-i-init : goal.write_fields-loop-i-init
write_fields-loop-i-init t c = let a = c.args in (omega arith, refl, refl, left-start a.sorts.now a.members.now a.names.now a.nodes.now a.text.now a.first a.count a.allow a.out.now a.place)

pub write_fields-loop-i-preserved : goal.write_fields-loop-i-preserved
write_fields-loop-i-preserved t c = let a = c.args in (omega arith, c.write_inside-to.auto.scratch ∙ c.loop-i.invariant.1, c.write_inside-to.auto.out ∙ c.write_comma-one.auto.out ∙ c.loop-i.invariant.2, left-next a.sorts.now a.members.now a.names.now a.nodes.now a.text.now a.first a.count a.allow a.out.now a.place _ _ _ _ c.loop-i.invariant.3 c.loop-i-test.true _ _ _ _ c.write_comma-one.ensures c.write_inside-to.ensures _ c.after-at.ensures)

pub write_fields-returns : goal.write_fields-returns
write_fields-returns t c = let a = c.args in left_end a.sorts.now a.members.now a.names.now a.nodes.now a.text.now a.first a.count a.allow a.out.now a.place _ _ _ _ c.loop-i.invariant.3 c.loop-i-test.false

pub write_inside-returns-then-out-place : goal.write_inside-returns-then-out-place
write_inside-returns-then-out-place t c = let a = c.args in inside_past a.sorts.now a.members.now a.names.now a.nodes.now a.text.now a.at a.allow _ a.place _ c.if-out-place.true

pub write_inside-returns : goal.write_inside-returns
write_inside-returns t c = let a = c.args in inside-tail a.sorts.now a.members.now a.names.now a.nodes.now a.text.now a.at a.allow _ _ _ _ _ c.if-out-place.false c.write_value-count.auto.out c.well_formed.1.1.1.1.1.1.1.1.0.0 c.write_value-count.ensures c.plus.ensures

pub write_members-returns-then-below-eq0 : goal.write_members-returns-then-below-eq0
write_members-returns-then-below-eq0 t c = let a = c.args in members_nested a.sorts.now a.members.now a.names.now a.nodes.now a.text.now a.at c.shape_at-shape.result c.shape_at-shape.ensures a.below _ _ c.in-Union.is _ _ c.if-below-eq0.true

pub write_members-returns-in-Singleton : goal.write_members-returns-in-Singleton
write_members-returns-in-Singleton t c = let a = c.args in members-one a.sorts.now a.members.now a.names.now a.nodes.now a.text.now a.at c.shape_at-shape.result c.shape_at-shape.ensures a.below _ _ _ a.place _ _ _ c.in-Singleton.is c.write_inside-one.ensures c.put.ensures

pub write_members-returns-else-below-eq0 : goal.write_members-returns-else-below-eq0
write_members-returns-else-below-eq0 t c = let a = c.args in members-two a.sorts.now a.members.now a.names.now a.nodes.now a.text.now a.at c.shape_at-shape.result c.shape_at-shape.ensures a.below _ _ c.in-Union.is _ _ _ a.place _ _ c.if-below-eq0.false c.write_members-one.ensures c.write_members.ensures

pub write_members-returns-in_default : goal.write_members-returns-in_default
write_members-returns-in_default t c = let a = c.args in members_else a.sorts.now a.members.now a.names.now a.nodes.now a.text.now a.at c.shape_at-shape.result c.shape_at-shape.ensures a.below _ _ (opened c.in_default.in_default-own.keys3)

pub write_value-returns-then-allow-eq0 : goal.write_value-returns-then-allow-eq0
write_value-returns-then-allow-eq0 t c = let a = c.args in value_nested a.sorts.now a.members.now a.names.now a.nodes.now a.text.now a.at a.allow _ _ _ c.if-allow-eq0.true

pub write_value-returns-in-Whole : goal.write_value-returns-in-Whole
write_value-returns-in-Whole t c = let a = c.args in value-whole a.sorts.now a.members.now a.names.now a.nodes.now a.text.now a.at a.allow c.if-allow-eq0.false _ _ c.open_value-opened.result c.open_value-opened.ensures _ c.in-Whole.is

pub write_value-returns-in-Fields : goal.write_value-returns-in-Fields
write_value-returns-in-Fields t c = let a = c.args in value-fields a.sorts.now a.members.now a.names.now a.nodes.now a.text.now a.at a.allow c.if-allow-eq0.false _ _ c.open_value-opened.result c.open_value-opened.ensures _ _ _ c.in-Fields.is _ _ _ _ c.write_fields-end.ensures c.put.ensures

pub write_value-returns-in-Set : goal.write_value-returns-in-Set
write_value-returns-in-Set t c = let a = c.args in value_set a.sorts.now a.members.now a.names.now a.nodes.now a.text.now a.at a.allow c.if-allow-eq0.false _ _ c.open_value-opened.result c.open_value-opened.ensures _ c.in-Set.is _ _ _ _ c.write_members-end.ensures c.close_set.ensures
