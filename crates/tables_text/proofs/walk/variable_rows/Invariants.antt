use Rattle.tables_text.specs.Parse.{variable_in}
use Rattle.tables_text.specs.Line.{variable_line}
use Rattle.tables_text.specs.Words.{variable_words}
use Rattle.tables_text.proofs.Spelled.{variable-sound}
use Rattle.tables_text.proofs.Walks.{Walking}
use Rattle.tables_text.proofs.walk.variable_rows.Given as goal

abbrev pub invariant-loop-row : goal.invariant-loop-row
invariant-loop-row l = Walking variable_in variable_line variable_words variable-sound l.text l.initial.table l.start l.at l.row l.table
