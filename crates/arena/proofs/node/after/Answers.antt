use mathlib.Core.Path.{sym, ◌∙◌}
use native.Mathlib.Omega.{arith}
use Prim.Native.Nat.{◌/◌}
use lib.ListN.{length}
use Rattle.ground.proofs.Tests.{by_order}
use Rattle.arena.specs.Layout.{stride}
use Rattle.arena.proofs.Views.{node-past}
use Rattle.arena.proofs.node.after.Goals as goal

-- where there is a node, the words go on
pub overflow_add-result : goal.overflow_add-result
overflow_add-result c =
    let a = c.args in
    by_order a.at (length a.words.now / stride)
    (λ h. record { fits = omega arith })
    (λ h. absurd (c.in_default.not-NoNode (c.node_at.ensures ∙ sym (node-past _ _ h))))
