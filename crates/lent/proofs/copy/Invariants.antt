use Rattle.lent.proofs.Copies.{Copying}
use Rattle.lent.proofs.copy.Given as goal

abbrev pub invariant-loop-at : goal.invariant-loop-at
invariant-loop-at l = Copying l.bytes l.initial.out l.out l.at
