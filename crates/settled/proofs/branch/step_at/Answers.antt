use mathlib.Core.Path.{refl, sym, ◌∙◌}
use Rattle.settled.proofs.Steps.{step-atom, step_other, step-to}
use Rattle.settled.proofs.branch.step_at.Goals as goal

pub returns-in_err-list_at : goal.returns-in_err-list_at
returns-in_err-list_at c = let a = c.args in rw c.from_residual.ensures (step-atom a.marks.now a.nodes.now a.text.now a.at _ c.list_at.ensures c.in_err-list_at.was)

pub returns-in_default : goal.returns-in_default
returns-in_default c = let a = c.args in step_other a.marks.now a.nodes.now a.text.now a.at c.list_at.result c.list_at.ensures c.shape_at-shape.result c.shape_at-shape.ensures c.in_default.not-Ite

pub returns-then-marked : goal.returns-then-marked
returns-then-marked c = let a = c.args in step-to a.marks.now a.nodes.now a.text.now a.at _ c.list_at.ensures _ c.shape_at-shape.ensures _ c.in_ok-list_at.was _ _ _ c.in-Ite.is _ (sym c.if-marked.true ∙ c.marked.ensures) _ refl

pub returns : goal.returns
returns c = let a = c.args in step-to a.marks.now a.nodes.now a.text.now a.at _ c.list_at.ensures _ c.shape_at-shape.ensures _ c.in_ok-list_at.was _ _ _ c.in-Ite.is _ (sym c.if-marked.false ∙ c.marked.ensures) _ refl
