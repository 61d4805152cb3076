use native.Mathlib.Omega.{arith}
use Rattle.commands.proofs.Pairs.{pair-atom, pair_parts, pair-two}
use Rattle.shapes.proofs.Seen.{list-within}
use Rattle.commands.proofs.pair.pair_at.Goals as goal

pub returns-in_err-count-clause-pair_at : goal.returns-in_err-count-clause-pair_at
returns-in_err-count-clause-pair_at c = rw c.from_residual.ensures (pair-atom _ _ _ c.list_at.ensures c.in_err-count.was)

pub returns-then-count-ne2-clause-pair_at : goal.returns-then-count-ne2-clause-pair_at
returns-then-count-ne2-clause-pair_at c = pair_parts _ _ _ c.list_at.ensures _ c.in_ok-count.was c.if-count-ne2.true

pub overflow_add-at : goal.overflow_add-at
overflow_add-at c = record { fits = omega (arith, list-within _ _ _ c.list_at.ensures _ c.in_ok-count.was) }

pub returns-clause-pair_at : goal.returns-clause-pair_at
returns-clause-pair_at c = pair-two _ _ _ c.list_at.ensures _ c.in_ok-count.was c.if-count-ne2.false c.two.result c.two.ensures.two_at
