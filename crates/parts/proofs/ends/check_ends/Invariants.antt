use Rattle.parts.proofs.Rises.{Checking}
use Rattle.parts.proofs.ends.check_ends.Given as goal

abbrev pub invariant-loop-end : goal.invariant-loop-end
invariant-loop-end l = Checking l.size l.ends l.last l.end-index
