use Rattle.parts.proofs.Trails.{Trailing, leading}
use Rattle.parts.proofs.lists.put_joined.Given as goal

abbrev pub invariant-loop-i : goal.invariant-loop-i
invariant-loop-i l = Trailing l.separator l.string l.ends l.initial.out l.at l.out (leading l.separator l.i) l.from l.to l.i
