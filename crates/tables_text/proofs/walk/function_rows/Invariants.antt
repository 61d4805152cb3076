use Rattle.tables_text.specs.Parse.{function_in}
use Rattle.tables_text.specs.Line.{function_line}
use Rattle.tables_text.specs.Words.{function_words}
use Rattle.tables_text.proofs.Spelled.{function-sound}
use Rattle.tables_text.proofs.Walks.{Walking}
use Rattle.tables_text.proofs.walk.function_rows.Given as goal

abbrev pub invariant-loop-row : goal.invariant-loop-row
invariant-loop-row l = Walking function_in function_line function_words function-sound l.text l.initial.table l.start l.at l.row l.table
