use Rattle.std.proofs.lemmas.Result.{err_from_is_err_and}
use Rattle.std.proofs.Common.{Ok}
use Rattle.literals.proofs.Forms.{finish-refused, finishes_of}
use Rattle.literals.proofs.Unions.{union_right, unions_of}
use Rattle.literals.specs.Answer.{capped}
use mathlib.Core.Path.{refl, sym, ◌∙◌, ap}
use Prim.Native.Nat.{◌+◌}
use native.Mathlib.Omega.{arith}
use Rattle.literals.proofs.Walks.{left-start, left_end, left-refused, left-next}
use Rattle.literals.proofs.Decodes.{literal_nested, literal-refused, literal-done, literal-one, literal_left, literal-two, literal_record}
use Prim.Native.Nat.{ℕ}
use Rattle.literals.proofs.decode.+decode_fields_decode_literal.Goals as goal

pub decode_fields-loop-i-init : goal.decode_fields-loop-i-init
decode_fields-loop-i-init t c = let a = c.args in (omega arith, left-start a.sorts.now a.fields.now a.members.now a.names.now a.nodes.now a.text.now a.row a.node a.first a.count a.allow)

pub decode_fields-returns-in_err-need : goal.decode_fields-returns-in_err-need
decode_fields-returns-in_err-need t c = let a = c.args in let p = err_from_is_err_and c.from_residual.result c.from_residual.ensures.1 in rw (p.1, p.2) (left-refused a.sorts.now a.fields.now a.members.now a.names.now a.nodes.now a.text.now a.row a.node a.first a.count a.allow c.loop-i.place c.loop-i.total c.loop-i.i c.loop-i.invariant.1 (omega arith) _ c.field_row-wanted.ensures c.decode_literal-literal.result c.decode_literal-literal.ensures _ (sym c.field_of.ensures ∙ c.in_err-need.was))

pub decode_fields-loop-i-preserved : goal.decode_fields-loop-i-preserved
decode_fields-loop-i-preserved t c = let a = c.args in (omega arith, left-next a.sorts.now a.fields.now a.members.now a.names.now a.nodes.now a.text.now a.row a.node a.first a.count a.allow c.loop-i.place c.loop-i.total c.loop-i.i c.loop-i.invariant.1 (omega arith) _ c.field_row-wanted.ensures c.decode_literal-literal.result c.decode_literal-literal.ensures _ (sym c.field_of.ensures ∙ c.in_ok-need.was) _ (c.plus-total.ensures ∙ ap (λ (n : ℕ). capped (c.loop-i.total + n)) c.plus.ensures) _ c.after-place.ensures)

pub decode_fields-returns : goal.decode_fields-returns
decode_fields-returns t c = let a = c.args in left_end a.sorts.now a.fields.now a.members.now a.names.now a.nodes.now a.text.now a.row a.node a.first a.count a.allow c.loop-i.place c.loop-i.total c.loop-i.i c.loop-i.invariant.1 (omega arith) c.loop-i.invariant.0 _ c.record_need.ensures

pub decode_literal-returns-then-allow-eq0 : goal.decode_literal-returns-then-allow-eq0
decode_literal-returns-then-allow-eq0 t c = let a = c.args in literal_nested a.sorts.now a.fields.now a.members.now a.names.now a.nodes.now a.text.now a.at a.expected a.allow c.if-allow-eq0.true

pub decode_literal-returns-in_err-plan : goal.decode_literal-returns-in_err-plan
decode_literal-returns-in_err-plan t c = let a = c.args in let p = err_from_is_err_and c.from_residual.result c.from_residual.ensures.1 in rw (p.1, p.2) (literal-refused a.sorts.now a.fields.now a.members.now a.names.now a.nodes.now a.text.now a.at a.expected a.allow c.if-allow-eq0.false _ refl c.plan_at.result c.plan_at.ensures _ c.in_err-plan.was)

pub decode_literal-returns-in-Done : goal.decode_literal-returns-in-Done
decode_literal-returns-in-Done t c = let a = c.args in literal-done a.sorts.now a.fields.now a.members.now a.names.now a.nodes.now a.text.now a.at a.expected a.allow c.if-allow-eq0.false _ refl c.plan_at.result c.plan_at.ensures _ (c.in_ok-plan.was ∙ ap Ok c.in-Done.is)

pub decode_literal-returns-in_ok-inner-in-One : goal.decode_literal-returns-in_ok-inner-in-One
decode_literal-returns-in_ok-inner-in-One t c = let a = c.args in literal-one a.sorts.now a.fields.now a.members.now a.names.now a.nodes.now a.text.now a.at a.expected a.allow c.if-allow-eq0.false _ refl c.plan_at.result c.plan_at.ensures _ _ _ (c.in_ok-plan.was ∙ ap Ok c.in-One.is) c.decode_literal.result c.decode_literal.ensures c.finish.result (finishes_of _ _ _ _ _ c.in_ok-inner-in-One.was c.finish.ensures)

pub decode_literal-returns-in_err-inner-in-One : goal.decode_literal-returns-in_err-inner-in-One
decode_literal-returns-in_err-inner-in-One t c = let a = c.args in let p = err_from_is_err_and c.from_residual-in_err-inner-in-One.result c.from_residual-in_err-inner-in-One.ensures.1 in rw (p.1, p.2) (literal-one a.sorts.now a.fields.now a.members.now a.names.now a.nodes.now a.text.now a.at a.expected a.allow c.if-allow-eq0.false _ refl c.plan_at.result c.plan_at.ensures _ _ _ (c.in_ok-plan.was ∙ ap Ok c.in-One.is) c.decode_literal.result c.decode_literal.ensures _ (finish-refused a.sorts.now c.decode_literal.result _ _ c.in_err-inner-in-One.was))

pub decode_literal-returns-in_err-first-in-Two : goal.decode_literal-returns-in_err-first-in-Two
decode_literal-returns-in_err-first-in-Two t c = let a = c.args in let p = err_from_is_err_and c.from_residual-in_err-first-in-Two.result c.from_residual-in_err-first-in-Two.ensures.1 in rw (p.1, p.2) (literal_left a.sorts.now a.fields.now a.members.now a.names.now a.nodes.now a.text.now a.at a.expected a.allow c.if-allow-eq0.false _ refl c.plan_at.result c.plan_at.ensures _ _ (c.in_ok-plan.was ∙ ap Ok c.in-Two.is) c.decode_literal-in-Two.result c.decode_literal-in-Two.ensures _ c.in_err-first-in-Two.was)

pub decode_literal-returns-in_err-second-in-Two : goal.decode_literal-returns-in_err-second-in-Two
decode_literal-returns-in_err-second-in-Two t c = let a = c.args in let p = err_from_is_err_and c.from_residual-in_err-second-in-Two.result c.from_residual-in_err-second-in-Two.ensures.1 in rw (p.1, p.2) (literal-two a.sorts.now a.fields.now a.members.now a.names.now a.nodes.now a.text.now a.at a.expected a.allow c.if-allow-eq0.false _ refl c.plan_at.result c.plan_at.ensures _ _ (c.in_ok-plan.was ∙ ap Ok c.in-Two.is) c.decode_literal-in-Two.result c.decode_literal-in-Two-2.result c.decode_literal-in-Two.ensures c.decode_literal-in-Two-2.ensures _ (union_right c.decode_literal-in-Two.result c.decode_literal-in-Two-2.result _ c.in_ok-first-in-Two.was _ c.in_err-second-in-Two.was))

pub decode_literal-returns-in_ok-second-in-Two : goal.decode_literal-returns-in_ok-second-in-Two
decode_literal-returns-in_ok-second-in-Two t c = let a = c.args in literal-two a.sorts.now a.fields.now a.members.now a.names.now a.nodes.now a.text.now a.at a.expected a.allow c.if-allow-eq0.false _ refl c.plan_at.result c.plan_at.ensures _ _ (c.in_ok-plan.was ∙ ap Ok c.in-Two.is) c.decode_literal-in-Two.result c.decode_literal-in-Two-2.result c.decode_literal-in-Two.ensures c.decode_literal-in-Two-2.ensures c.union_of.result (unions_of _ _ _ _ _ c.in_ok-first-in-Two.was c.in_ok-second-in-Two.was c.union_of.ensures)

pub decode_literal-returns-in-Record : goal.decode_literal-returns-in-Record
decode_literal-returns-in-Record t c = let a = c.args in literal_record a.sorts.now a.fields.now a.members.now a.names.now a.nodes.now a.text.now a.at a.expected a.allow c.if-allow-eq0.false _ refl c.plan_at.result c.plan_at.ensures _ _ _ _ (c.in_ok-plan.was ∙ ap Ok c.in-Record.is) c.decode_fields.result c.decode_fields.ensures
