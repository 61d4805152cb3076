use Rattle.words.proofs.WordRuns.{Short}
use Rattle.words.proofs.digits.parse_word.Given as goal

abbrev pub invariant-loop-byte : goal.invariant-loop-byte
invariant-loop-byte l = Short l.fn.radix l.run l.number l.byte-index
