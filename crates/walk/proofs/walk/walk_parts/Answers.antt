use Rattle.std.proofs.lemmas.Result.{err_from_is_err_and}
use Rattle.std.proofs.Common.{Ok}
use mathlib.Core.Path.{refl, ap, ◌∙◌}
use lib.ListN.{length}
use native.Mathlib.Omega.{arith}
use Rattle.walk.proofs.Walks.{walk_start, walk_end, walk_refused, walk-skipped, walk_defines}
use Rattle.walk.proofs.walk.walk_parts.Goals as goal
use Rattle.walk.proofs.walk.walk_parts.Goals.{in-Some, in_default}

pub loop-init : goal.loop-init
loop-init c = (refl, walk_start _ _ _ _ _ _ _)

pub returns-in_err-noted : goal.returns-in_err-noted
returns-in_err-noted c =
    let p = err_from_is_err_and c.from_residual.result c.from_residual.ensures.1 in
    rw (p.1, p.2) (walk_refused _ _ _ _ _ _ _ _ _ _ c.loop.invariant.1 (omega arith) _ c.check_part.ensures _ c.in_err-noted.was)

pub loop-preserved : goal.loop-preserved
loop-preserved c = (
  elim c.match-noted.branch [ in_default w ↦ ap length w.last-is ∙ c.loop.invariant.0 | in-Some w ↦ ap length w.last-is ∙ w.keep.auto.last ∙ c.loop.invariant.0 ],
  elim c.match-noted.branch [ in_default w ↦ walk-skipped _ _ _ _ _ _ _ _ _ _ c.loop.invariant.1 (omega arith) _ c.check_part.ensures _ c.after-at.ensures (c.in_ok-noted.was ∙ ap Ok w.in_default.is) _ w.last-is | in-Some w ↦ walk_defines _ _ _ _ _ _ _ _ _ _ c.loop.invariant.1 (omega arith) _ c.check_part.ensures _ c.after-at.ensures _ _ _ (c.in_ok-noted.was ∙ ap Ok w.in-Some.is) _ _ w.keep.ensures w.last-is ],
)

pub returns : goal.returns
returns c = walk_end _ _ _ _ _ _ _ _ _ _ c.loop.invariant.1 (omega arith)
