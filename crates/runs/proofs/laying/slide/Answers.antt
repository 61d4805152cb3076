use Rattle.runs.proofs.Lays.{slid}
use Rattle.runs.proofs.laying.slide.Goals as goal

pub returns : goal.returns
returns c = search (slid)
