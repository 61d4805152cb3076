use Rattle.tables.proofs.Finds.{finds_function}
use Rattle.tables.proofs.find.find_function.Goals as goal

pub returns : goal.returns
returns c = let a = c.args in finds_function a.functions.now a.names.now a.name.now _ c.find_name.ensures
