use lib.ListN.{drop}
use Rattle.strings.specs.Escape.{four_digits}
use Rattle.strings.proofs.Fours.{Fours}
use Rattle.strings.proofs.escape.four_digits.Given as goal

abbrev pub invariant-loop-digit : goal.invariant-loop-digit
invariant-loop-digit l = Fours l.four (four_digits (drop l.start l.s)) l.value l.digit-index
