use mathlib.Core.Path.{sym, ◌∙◌}
use Rattle.literals.proofs.Made.{entity-many, entity-other, entity-string}
use Rattle.literals.proofs.plan.entity_of.Goals as goal

pub returns-then-count-ne1 : goal.returns-then-count-ne1
returns-then-count-ne1 c = entity-many c.args.nodes.now c.args.row c.args.first c.args.count c.if-count-ne1.true

pub returns-in_default : goal.returns-in_default
returns-in_default c = let a = c.args in entity-other a.nodes.now a.row a.first a.count c.if-count-ne1.false _ (sym c.node_at.ensures) c.in_default.not-String

pub returns : goal.returns
returns c = let a = c.args in entity-string a.nodes.now a.row a.first a.count c.if-count-ne1.false _ _ (sym c.node_at.ensures ∙ c.in-String.is) _ c.text_need.ensures
