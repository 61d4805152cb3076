use Rattle.moves.proofs.Replaces.{Replacing}
use Rattle.moves.proofs.replace.Given as goal

abbrev pub invariant-loop-byte : goal.invariant-loop-byte
invariant-loop-byte l = Replacing l.from l.to l.initial.s l.s l.byte-index
