use Rattle.script.proofs.Texts.{Measuring}
use Rattle.script.proofs.pieces.write_all.Given as goal

abbrev pub invariant-loop-piece : goal.invariant-loop-piece
invariant-loop-piece l = Measuring l.pieces l.piece-index l.need
