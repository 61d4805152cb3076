use Rattle.tables.proofs.Finds.{finds_variable}
use Rattle.tables.proofs.find.find_variable.Goals as goal

pub returns : goal.returns
returns c = let a = c.args in finds_variable a.variables.now a.names.now a.name.now _ c.find_name.ensures
