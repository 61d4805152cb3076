use Rattle.walk.proofs.Notes.{pair-skipped, pair-defined}
use Rattle.walk.proofs.pair.note_pair.Goals as goal

pub returns : goal.returns
returns c = pair-defined _ _ _ _ _ _ c.variable_row.ensures _ _ c.in-Some.is _ c.word-declared.ensures _ c.check_value-measured.ensures _ c.noted_as.ensures

pub returns-in_default : goal.returns-in_default
returns-in_default c = pair-skipped _ _ _ _ _ _ c.variable_row.ensures _ c.in_default.is
