use Rattle.decimals.specs.Decimal.{last_digits}
use Rattle.decimals.proofs.Puts.{Putting}
use Rattle.decimals.proofs.put_digits.Given as goal

abbrev pub invariant-loop-at : goal.invariant-loop-at
invariant-loop-at l = Putting last_digits l.number l.start l.end l.initial.out l.out l.rest l.at
