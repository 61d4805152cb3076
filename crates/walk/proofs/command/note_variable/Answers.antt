use Rattle.walk.proofs.Notes.{variable-skipped, variable-defined}
use Rattle.walk.proofs.command.note_variable.Goals as goal

pub returns : goal.returns
returns c = variable-defined _ _ _ _ _ _ c.variable_row.ensures _ _ _ c.in-Some.is _ c.word-declared.ensures _ c.check_variable-measured.ensures _ c.noted_as.ensures

pub returns-in_default : goal.returns-in_default
returns-in_default c = variable-skipped _ _ _ _ _ _ c.variable_row.ensures _ _ c.in_default.is
