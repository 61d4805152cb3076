-- Document 01, "Sorts and literals": 25 exactly when a rule is broken; faults of the form itself count as such.
use Rattle.std.specs.Prelude.{Bool, cond, ◌&&◌, Err, Ok, Result, ⊤}
use Rattle.refusals.specs.declared.Refusal.TheVariants.{BadTable}
use Rattle.tables.specs.Layout.{Lent, tables_of, formed}
use Rattle.tables.specs.Rules.{lawful}
use Rattle.refusals.specs.declared.Refusal.{Refusal}

unfoldable pub passes : Lent → Bool
passes l = formed l && lawful (tables_of l)

abbrev pub checked : Lent → Result ⊤ Refusal
checked l = cond (passes l) (Ok tt) (Err BadTable)
