use Rattle.std.specs.List.{concat}
use lib.ListN.{drop}
use Rattle.lent.proofs.Offers.{Onwards}
use Rattle.script.proofs.Texts.{texts}
use Rattle.script.proofs.pieces.put_all.Given as goal

abbrev pub invariant-loop-piece : goal.invariant-loop-piece
invariant-loop-piece l = Onwards l.initial.out l.at (concat (texts l.pieces)) l.out l.to (concat (texts (drop l.piece-index l.pieces)))
