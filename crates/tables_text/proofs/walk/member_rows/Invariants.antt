use Rattle.tables_text.specs.Parse.{member_in}
use Rattle.tables_text.specs.Line.{member_line}
use Rattle.tables_text.specs.Words.{member_words}
use Rattle.tables_text.proofs.Spelled.{member-sound}
use Rattle.tables_text.proofs.Walks.{Walking}
use Rattle.tables_text.proofs.walk.member_rows.Given as goal

abbrev pub invariant-loop-row : goal.invariant-loop-row
invariant-loop-row l = Walking member_in member_line member_words member-sound l.text l.initial.table l.start l.at l.row l.table
