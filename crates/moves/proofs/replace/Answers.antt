use mathlib.Core.Path.{◌∙◌}
use native.Mathlib.Omega.{arith}
use Rattle.moves.proofs.Replaces.{replacement-from, replacement-other, replacing_start, replacing_step, replacing_end}
use Rattle.moves.proofs.replace.Goals as goal
use Rattle.moves.proofs.replace.Goals.{then-byte-from, else-byte-from}

pub loop-byte-init : goal.loop-byte-init
loop-byte-init c = replacing_start _ _ _

pub loop-byte-preserved : goal.loop-byte-preserved
loop-byte-preserved c =
    replacing_step _ _ _ _ _ c.loop-byte.invariant (omega arith) _
    (elim c.if-byte-from.branch [
      | then-byte-from w ↦ w.byte-is ∙ replacement-from _ _ _ w.if-byte-from.true
      | else-byte-from w ↦ w.byte-is ∙ replacement-other _ _ _ w.if-byte-from.false
    ])

pub returns : goal.returns
returns c = replacing_end _ _ _ _ _ c.loop-byte.invariant (omega arith)
