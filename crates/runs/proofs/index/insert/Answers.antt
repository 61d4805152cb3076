use mathlib.Core.Path.{refl, ◌∙◌}
use native.Mathlib.Omega.{arith}
use Rattle.runs.proofs.Pairs.{pairs-long}
use Rattle.runs.proofs.Finds.{shifting_start, shifting_next, shifting_end}
use Rattle.runs.proofs.index.insert.Goals as goal

pub loop-i-init : goal.loop-i-init
loop-i-init c = (refl, shifting_start _ _ _ _ c.requires)

pub overflow_add-i-end : goal.overflow_add-i-end
overflow_add-i-end c = record { fits = omega (arith, pairs-long c.args.index.now) }

pub loop-i-preserved : goal.loop-i-preserved
loop-i-preserved c = (c.set_place.auto.index ∙ c.loop-i.invariant.0, shifting_next _ _ _ _ _ _ _ _ _ c.loop-i.invariant.1 (omega (arith, c.loop-i-test.true)) c.place-next.ensures.same c.place-next.ensures.small c.set_place.ensures)

pub returns : goal.returns
returns c = shifting_end _ _ _ _ _ _ _ c.loop-i.invariant.1 (omega (arith, c.loop-i-test.false))
