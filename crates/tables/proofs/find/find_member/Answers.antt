use Rattle.tables.proofs.Finds.{finds_member}
use Rattle.tables.proofs.find.find_member.Goals as goal

pub returns : goal.returns
returns c = let a = c.args in finds_member a.members.now a.names.now a.name.now _ c.find_name.ensures
