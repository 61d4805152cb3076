use Rattle.shapes.proofs.Sorts.{list-word, list-one, list-two}
use Rattle.shapes.proofs.sort.sort_list.Goals as goal

pub returns-in_default : goal.returns-in_default
returns-in_default c = list-word _ _ _ _ _ c.symbol_at.ensures c.in_default.is

pub returns-in-2 : goal.returns-in-2
returns-in-2 c = list-one _ _ _ _ _ _ _ c.symbol_at.ensures c.in-Some.is _ c.after-first.ensures c.sort_one.result c.in-2.is c.sort_one.ensures

pub returns-in-3 : goal.returns-in-3
returns-in-3 c = list-two _ _ _ _ _ _ _ c.symbol_at.ensures c.in-Some.is _ c.after-first.ensures c.sort_two.result c.in-3.is c.sort_two.ensures
