use Rattle.std.proofs.lemmas.Result.{err_from_is_err_and}
use mathlib.Core.Path.{ap}
use Rattle.literals.proofs.Done.{done}
use Rattle.literals.proofs.Made.{row-nameless, row-entity, row_record}
use Rattle.literals.proofs.plan.plan_row.Goals as goal

pub returns-in_ok-literal-in-Entity : goal.returns-in_ok-literal-in-Entity
returns-in_ok-literal-in-Entity c = let a = c.args in row-entity a.sorts.now a.most a.nodes.now a.row a.first a.count c.sort_at-sort.result c.sort_at-sort.ensures c.in-Entity.is c.entity_of.result c.entity_of.ensures _ (ap done c.in_ok-literal-in-Entity.was)

pub returns-in_err-literal-in-Entity : goal.returns-in_err-literal-in-Entity
returns-in_err-literal-in-Entity c = let a = c.args in let p = err_from_is_err_and c.from_residual.result c.from_residual.ensures.1 in rw (p.1, p.2) (row-entity a.sorts.now a.most a.nodes.now a.row a.first a.count c.sort_at-sort.result c.sort_at-sort.ensures c.in-Entity.is c.entity_of.result c.entity_of.ensures _ (ap done c.in_err-literal-in-Entity.was))

pub returns-in-Record : goal.returns-in-Record
returns-in-Record c = let a = c.args in row_record a.sorts.now a.most a.nodes.now a.row a.first a.count c.sort_at-sort.result c.sort_at-sort.ensures _ _ c.in-Record.is c.record_of.result c.record_of.ensures

pub returns-in_default : goal.returns-in_default
returns-in_default c = let a = c.args in row-nameless a.sorts.now a.most a.nodes.now a.row a.first a.count c.sort_at-sort.result c.sort_at-sort.ensures c.in_default.not-Entity c.in_default.not-Record
