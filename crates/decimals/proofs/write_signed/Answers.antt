use Rattle.refusals.specs.declared.Refusal.TheVariants.{OutRoom}
use Rattle.lent.proofs.Lefts.{leaves_as}
use Rattle.decimals.proofs.Texts.{signed-negative, signed-natural}
use Rattle.decimals.proofs.write_signed.Goals as goal

pub returns-then-number-lt0 : goal.returns-then-number-lt0
returns-then-number-lt0 c = let a = c.args in leaves_as OutRoom a.out.now (signed-negative a.number c.unsigned_abs-size.result c.ranges.number c.if-number-lt0.true c.unsigned_abs-size.ensures.value) c.write_negative.ensures

pub returns-else-number-lt0 : goal.returns-else-number-lt0
returns-else-number-lt0 c = let a = c.args in leaves_as OutRoom a.out.now (signed-natural a.number c.unsigned_abs-size.result c.ranges.number c.if-number-lt0.false c.unsigned_abs-size.ensures.value) c.write_natural.ensures
