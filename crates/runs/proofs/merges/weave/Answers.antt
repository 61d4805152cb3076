use Rattle.runs.proofs.Knits.{woven}
use Rattle.runs.proofs.merges.weave.Goals as goal

pub returns : goal.returns
returns c = let a = c.args in woven _ _ a.s.now a.scratch.now _ _ _ _ c.requires c.copy.ensures c.knit.ensures
