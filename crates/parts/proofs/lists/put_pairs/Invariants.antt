use lib.ListN.{length}
use Rattle.parts.proofs.Trails.{Pairing}
use Rattle.parts.proofs.lists.put_pairs.Given as goal

abbrev pub invariant-loop-rest : goal.invariant-loop-rest
invariant-loop-rest l = Pairing l.string l.ends l.initial.out l.at l.out l.lead l.from l.to l.rest

abbrev pub decreases-loop-rest : goal.decreases-loop-rest
decreases-loop-rest l = length l.rest
