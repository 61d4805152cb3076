use native.Mathlib.Omega.{arith}
use Rattle.strings.proofs.Walks.{writing_start, writing-fits, next-inside, writing_step, writing-end}
use Rattle.strings.proofs.text.write_text.Goals as goal

pub loop-at-init : goal.loop-at-init
loop-at-init c = writing_start _ _ c.requires

pub put-to-requires : goal.put-to-requires
put-to-requires c = writing-fits _ _ _ _ _ c.loop-at.invariant _ c.loop-at-test.true c.character_at-found.ensures _ c.encode-bytes.ensures

pub overflow_add-at-in-loop-at : goal.overflow_add-at-in-loop-at
overflow_add-at-in-loop-at c = record { fits = omega (arith, next-inside _ _ _ c.loop-at-test.true c.character_at-found.ensures (c.type_inv.s c.loop-at.at).fits) }

pub loop-at-smaller : goal.loop-at-smaller
loop-at-smaller c = omega (arith, next-inside _ _ _ c.loop-at-test.true c.character_at-found.ensures (c.type_inv.s c.loop-at.at).fits)

pub loop-at-preserved : goal.loop-at-preserved
loop-at-preserved c = writing_step _ _ _ _ _ c.loop-at.invariant _ c.loop-at-test.true c.character_at-found.ensures _ c.encode-bytes.ensures (c.type_inv.s c.loop-at.at).fits _ _ c.put-to.ensures

pub returns : goal.returns
returns c = writing-end _ _ _ _ _ c.loop-at.invariant c.loop-at-test.false
