use native.Mathlib.Omega.{arith}
use Rattle.strings.proofs.Walks.{measuring_start, measuring_surrogate, measuring_most, next-inside, measuring_step, measuring_end}
use Rattle.strings.proofs.text.measure.Goals as goal

pub loop-at-init : goal.loop-at-init
loop-at-init c = measuring_start _

pub returns-then-size-eq0 : goal.returns-then-size-eq0
returns-then-size-eq0 c = measuring_surrogate _ _ _ c.loop-at.invariant _ c.loop-at-test.true c.character_at-found.ensures _ c.encoded_length-size.ensures c.if-size-eq0.true

pub overflow_add-total : goal.overflow_add-total
overflow_add-total c = record { fits = omega (arith, measuring_most _ _ _ c.loop-at.invariant _ c.loop-at-test.true c.character_at-found.ensures _ c.encoded_length-size.ensures c.if-size-eq0.false (c.type_inv.s c.loop-at.at).fits, next-inside _ _ _ c.loop-at-test.true c.character_at-found.ensures (c.type_inv.s c.loop-at.at).fits) }

pub overflow_add-at-in-loop-at : goal.overflow_add-at-in-loop-at
overflow_add-at-in-loop-at c = record { fits = omega (arith, next-inside _ _ _ c.loop-at-test.true c.character_at-found.ensures (c.type_inv.s c.loop-at.at).fits) }

pub loop-at-smaller : goal.loop-at-smaller
loop-at-smaller c = omega (arith, next-inside _ _ _ c.loop-at-test.true c.character_at-found.ensures (c.type_inv.s c.loop-at.at).fits)

pub loop-at-preserved : goal.loop-at-preserved
loop-at-preserved c = measuring_step _ _ _ c.loop-at.invariant _ c.loop-at-test.true c.character_at-found.ensures _ c.encoded_length-size.ensures c.if-size-eq0.false (c.type_inv.s c.loop-at.at).fits

pub returns : goal.returns
returns c = measuring_end _ _ _ c.loop-at.invariant c.loop-at-test.false
