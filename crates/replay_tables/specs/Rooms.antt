-- No document: rooms that a case asks for lie inside those that there are.
use Rattle.std.specs.Prelude.{◌≤◌}
use Rattle.tables_text.specs.declared.parse.Counts.{Counts}

pub record Within (lent : Counts) : Type 0 where
  pub sorts : lent.sorts ≤ 5130
  pub fields : lent.fields ≤ 32768
  pub variables : lent.variables ≤ 5130
  pub functions : lent.functions ≤ 5130
  pub members : lent.members ≤ 5130
