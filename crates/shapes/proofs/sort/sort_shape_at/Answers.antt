use Rattle.shapes.proofs.Sorts.{sort-word, sort-atom, sort-parts}
use Rattle.shapes.proofs.sort.sort_shape_at.Goals as goal

pub returns-in-Some : goal.returns-in-Some
returns-in-Some c = sort-word _ _ _ _ c.symbol_at.ensures _ _ c.in-Some.is

pub returns-in_default-list_at : goal.returns-in_default-list_at
returns-in_default-list_at c = sort-atom _ _ _ _ c.symbol_at.ensures c.in_default.is _ c.list_at.ensures c.in_default-list_at.is

pub returns : goal.returns
returns c = sort-parts _ _ _ _ c.symbol_at.ensures c.in_default.is _ c.list_at.ensures _ c.in-Some-list_at.is c.sort_list.result c.sort_list.ensures
