use Rattle.words.specs.Pair.{value}
use Rattle.decimals.proofs.Puts.{Putting}
use Rattle.values.specs.Text.{hex}
use Rattle.value_text.proofs.hex.put_digits.Given as goal

abbrev pub invariant-loop-at : goal.invariant-loop-at
invariant-loop-at l = Putting hex (value l.initial.rest) l.start l.end l.initial.out l.out (value l.rest) l.at
