use mathlib.Core.Path.{refl}
use Rattle.lent.proofs.Copies.{copying-step, copying-end}
use Rattle.lent.proofs.copy.Goals as goal

pub loop-at-preserved : goal.loop-at-preserved
loop-at-preserved c = copying-step _ _ _ _ c.loop-at.invariant c.loop-at-test.true

pub returns : goal.returns
returns c = let f = copying-end c.args.bytes.now c.args.out.now _ _ c.loop-at.invariant c.loop-at-test.false in record { long = refl; holds = f.holds }
