use mathlib.Core.Path.{◌≡◌}
use lib.ListN.{length}
use Prim.Native.Nat.{◌≤◌}
use Rattle.arms.proofs.Disjuncts.{GoingAt}
use Rattle.arms.proofs.tests.write_tests.Given as goal

abbrev pub invariant-loop : goal.invariant-loop
invariant-loop l = (l.counter ≤ l.count) × (length l.scratch ≡ length l.initial.scratch) × (length l.out ≡ length l.initial.out) × GoingAt l.sorts l.members l.names l.nodes l.text l.offset l.size l.first l.count l.initial.out l.place l.out l.to l.at l.counter
