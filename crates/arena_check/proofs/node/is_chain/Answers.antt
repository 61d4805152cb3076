use native.Mathlib.Omega.{arith}
use Prim.Native.Nat.{◌+◌, ◌-◌}
use Rattle.arena_check.proofs.Chains.{left-start, left_back, left-past, left-next, left_end}
use Rattle.arena_check.proofs.node.is_chain.Goals as goal
use Rattle.arena_check.proofs.node.is_chain.Goals.{then-next-at-via-then-next-at, then-next-at-via-else-next-at+then-end-next}

pub loop-linked-init : goal.loop-linked-init
loop-linked-init c = left-start _ _ _ _ _ (omega arith)

pub returns-then-next-at : goal.returns-then-next-at
returns-then-next-at c =
    let i = c.loop-linked.invariant in
    let less = c.args.count - (c.loop-linked.linked + 1) in
    elim c.then-next-at.branch [
      | then-next-at-via-then-next-at w ↦ left_back i less (omega arith) _ c.after-next.ensures w.if-next-at.true
      | then-next-at-via-else-next-at+then-end-next w ↦ left-past i less (omega arith) _ c.after-next.ensures w.if-end-next.true
    ]

pub loop-linked-preserved : goal.loop-linked-preserved
loop-linked-preserved c = left-next c.loop-linked.invariant (c.args.count - (c.loop-linked.linked + 1)) (omega arith) _ c.after-next.ensures (omega arith) (omega arith)

pub returns : goal.returns
returns c = left_end c.loop-linked.invariant (omega arith)
