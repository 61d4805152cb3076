use Prim.Native.Nat.{◌-◌}
use Rattle.arena_check.proofs.Chains.{Left}
use Rattle.arena_check.proofs.node.is_chain.Given as goal

abbrev pub invariant-loop-linked : goal.invariant-loop-linked
invariant-loop-linked l = Left l.count l.words l.from l.end (l.count - l.linked) l.at
