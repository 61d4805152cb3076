-- Document 01, "Numbers given back": the numbers that each kind of answer yields.
use Rattle.std.specs.Prelude.{[], ◌∷◌, Err, None, Ok, Option, Result, Some, ⊤, ℕ}
use Rattle.told.specs.Tells.{Yield, yields, refuses}
use Rattle.arena_check.specs.declared.Checked.{Checked}
use Rattle.reader.specs.declared.read.Reading.{Reading}
use Rattle.refusals.specs.declared.Refusal.{Refusal}
use Rattle.tables_text.specs.declared.parse.Counts.{Counts}

-- the length of what was written
abbrev pub written : Result ℕ Refusal → Yield
written (Ok n) = yields (n ∷ [])
written (Err why) = refuses why

-- nodes, text bytes and open brackets
abbrev pub read : Result Reading Refusal → Yield
read (Ok it) = yields (it.nodes ∷ it.text ∷ it.depth ∷ [])
read (Err why) = refuses why

-- nodes and text bytes
abbrev pub checked : Result Checked Refusal → Yield
checked (Ok it) = yields (it.nodes ∷ it.text ∷ [])
checked (Err why) = refuses why

-- tables that pass yield no number
abbrev pub passed : Result ⊤ Refusal → Yield
passed (Ok done) = yields []
passed (Err why) = refuses why

-- how many words each table has, the list of fields after the sorts
abbrev pub tables_read : Result Counts Refusal → Yield
tables_read (Ok it) = yields (it.sorts ∷ it.fields ∷ it.variables ∷ it.functions ∷ it.members ∷ [])
tables_read (Err why) = refuses why

-- 1 and the row that was found, or 0 and 0 where there is none: both are acceptances
abbrev pub found_row : Option ℕ → Yield
found_row (Some row) = yields (1 ∷ row ∷ [])
found_row None = yields (0 ∷ 0 ∷ [])
