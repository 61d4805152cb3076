use mathlib.Core.Path.{◌≡◌}
use lib.ListN.{length}
use Prim.Native.Nat.{◌-◌}
use Rattle.arms.proofs.Chains.{GoingAt}
use Rattle.arms.proofs.chain.write_chain.Given as goal

abbrev pub invariant-loop-at : goal.invariant-loop-at
invariant-loop-at l = (length l.scratch ≡ length l.initial.scratch) × (length l.out ≡ length l.initial.out) × GoingAt l.sorts l.members l.names l.nodes l.text l.offset l.size l.body l.initial.out l.place l.out l.to l.at

abbrev pub decreases-loop-at : goal.decreases-loop-at
decreases-loop-at l = length l.nodes - l.at
