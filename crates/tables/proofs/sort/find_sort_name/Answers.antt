use Rattle.tables.proofs.Sorts.{finds_named}
use Rattle.tables.proofs.sort.find_sort_name.Goals as goal

pub returns : goal.returns
returns c = let a = c.args in finds_named a.sorts.now a.names.now a.name.now _ c.find_named.ensures
