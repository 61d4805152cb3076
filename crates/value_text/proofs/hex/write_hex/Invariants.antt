use Rattle.value_text.proofs.Hexes.{Hexing}
use Rattle.value_text.proofs.hex.write_hex.Given as goal

abbrev pub invariant-loop-byte : goal.invariant-loop-byte
invariant-loop-byte l = Hexing l.bytes l.initial.out l.at l.out l.byte-index l.to
