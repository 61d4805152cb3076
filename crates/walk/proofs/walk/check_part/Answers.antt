use Rattle.walk.proofs.Notes.{part_as}
use Rattle.walk.proofs.walk.check_part.Goals as goal

pub returns-in-Model : goal.returns-in-Model
returns-in-Model c = part_as _ _ _ _ _ _ _ c.in-Model.is c.check_command.ensures

pub returns-in-Values : goal.returns-in-Values
returns-in-Values c = part_as _ _ _ _ _ _ _ c.in-Values.is c.check_pair.ensures
