use Rattle.definitions.proofs.Chains.{LeftAt}
use lib.ListN.{length}
use Prim.Native.Nat.{◌-◌}
use Rattle.definitions.proofs.body.check_chain.Given as goal

abbrev pub invariant-loop-at : goal.invariant-loop-at
invariant-loop-at l = LeftAt l.sorts l.fields l.members l.names l.nodes l.text l.offset l.size l.argument l.initial.res l.body l.at l.total

abbrev pub decreases-loop-at : goal.decreases-loop-at
decreases-loop-at l = length l.nodes - l.at
