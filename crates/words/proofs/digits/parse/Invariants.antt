use Rattle.words.proofs.Runs.{Sofar}
use Rattle.words.proofs.digits.parse.Given as goal

abbrev pub invariant-loop-byte : goal.invariant-loop-byte
invariant-loop-byte l = Sofar l.radix l.run l.number l.byte-index
