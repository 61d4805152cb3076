use Rattle.runs.proofs.Lowers.{halving_start, halving_up, halving_down, falls-up, falls_down, halving_end}
use mathlib.Core.Path.{refl}
use Rattle.runs.proofs.ends.lower.Goals as goal

pub loop-lo-init : goal.loop-lo-init
loop-lo-init c = search (halving_start)

pub loop-lo-smaller-then-below : goal.loop-lo-smaller-then-below
loop-lo-smaller-then-below c = falls-up c.args.s.now _ _ _ _ _ c.loop-lo.invariant c.loop-lo-test.true c.begin-p.ensures _ _ _ c.after-lo.ensures refl refl

pub loop-lo-preserved-then-below : goal.loop-lo-preserved-then-below
loop-lo-preserved-then-below c = halving_up c.args.s.now _ _ _ _ _ c.loop-lo.invariant c.loop-lo-test.true c.begin-p.ensures _ _ _ _ c.below.ensures c.if-below.true c.after-lo.ensures refl refl

pub loop-lo-smaller : goal.loop-lo-smaller
loop-lo-smaller c = falls_down c.args.s.now _ _ _ _ _ c.loop-lo.invariant c.loop-lo-test.true c.begin-p.ensures _ _ refl refl

pub loop-lo-preserved : goal.loop-lo-preserved
loop-lo-preserved c = halving_down c.args.s.now _ _ _ _ _ c.loop-lo.invariant c.loop-lo-test.true c.begin-p.ensures _ _ _ c.below.ensures c.if-below.false refl refl

pub returns : goal.returns
returns c = search (halving_end)
