use lib.ListN.{length}
use Rattle.runs.proofs.sorts.+sort.Given as goal

abbrev pub decreases-sort : goal.decreases-sort
decreases-sort l = length l.s.now
