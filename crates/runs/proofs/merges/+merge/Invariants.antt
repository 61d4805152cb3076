use lib.ListN.{length}
use Rattle.runs.proofs.merges.+merge.Given as goal

abbrev pub decreases-merge : goal.decreases-merge
decreases-merge l = length l.s.now
