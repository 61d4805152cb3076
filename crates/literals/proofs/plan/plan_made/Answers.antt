use Rattle.literals.proofs.Made.{made_row_lem, made_none}
use Rattle.literals.proofs.plan.plan_made.Goals as goal

pub returns : goal.returns
returns c = let a = c.args in made_row_lem a.sorts.now a.most a.names.now a.nodes.now a.name.now a.first a.count c.find_sort_name.result c.find_sort_name.ensures _ c.in-Some.is c.plan_row.result c.plan_row.ensures

pub returns-in_default : goal.returns-in_default
returns-in_default c = let a = c.args in made_none a.sorts.now a.most a.names.now a.nodes.now a.name.now a.first a.count c.find_sort_name.result c.find_sort_name.ensures c.in_default.is
