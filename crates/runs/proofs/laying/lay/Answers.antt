use Rattle.runs.proofs.Lays.{laid}
use Rattle.runs.proofs.laying.lay.Goals as goal

pub returns : goal.returns
returns c = search (laid)
