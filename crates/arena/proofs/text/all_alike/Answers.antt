use mathlib.Core.Path.{refl, ◌∙◌}
use native.Mathlib.Omega.{arith}
use Rattle.arena.proofs.Texts.{same-onward, same-all}
use Rattle.arena.proofs.text.all_alike.Goals as goal

pub loop-i-init : goal.loop-i-init
loop-i-init c = (omega arith, c.requires, refl)

pub loop-i-preserved : goal.loop-i-preserved
loop-i-preserved c = let a = c.args in (omega (arith, c.loop-i-test.true), c.loop-i.invariant.1, c.loop-i.invariant.2 ∙ same-onward a.a.now a.b.now c.loop-i.i c.loop-i-test.true (omega (arith, c.loop-i-test.true, c.loop-i.invariant.1)) c.loop-i.all _ c.alike-all.ensures)

pub returns : goal.returns
returns c = let a = c.args in same-all a.a.now a.b.now c.loop-i.i c.loop-i.all c.loop-i.invariant.1 (omega (arith, c.loop-i.invariant.0, c.loop-i-test.false)) c.loop-i.invariant.2
