use mathlib.Core.Path.{refl}
use native.Mathlib.Omega.{arith}
use Rattle.script.proofs.Scripts.{scripted-long, scripted-short, scripted-line}
use Rattle.script.proofs.Texts.{measuring_start, measuring_long, measuring-room, measuring_step, measured-short, measured}
use Rattle.script.proofs.pieces.write_all.Goals as goal

pub loop-piece-init : goal.loop-piece-init
loop-piece-init c = measuring_start _

pub returns-then-exceeds : goal.returns-then-exceeds
returns-then-exceeds c = scripted-long _ _ _ _ (measuring_long _ _ _ _ _ c.loop-piece-test.true c.loop-piece.invariant c.exceeds.ensures c.if-exceeds.true)

pub overflow_add-need : goal.overflow_add-need
overflow_add-need c = record { fits = omega (arith, c.requires, measuring-room _ _ _ _ _ c.loop-piece-test.true c.loop-piece.invariant c.exceeds.ensures c.if-exceeds.false) }

pub loop-piece-preserved : goal.loop-piece-preserved
loop-piece-preserved c = measuring_step _ _ _ _ _ c.loop-piece-test.true c.loop-piece.invariant c.exceeds.ensures c.if-exceeds.false

pub returns-then-out-need : goal.returns-then-out-need
returns-then-out-need c =
    scripted-short _ _ _ _ (measured-short _ _ _ c.loop-piece-test.false c.loop-piece.invariant) refl _ (measured _ _ _ c.loop-piece-test.false c.loop-piece.invariant) c.if-out-need.true

pub returns : goal.returns
returns c =
    scripted-line _ _ _ _ (measured-short _ _ _ c.loop-piece-test.false c.loop-piece.invariant) refl _ (measured _ _ _ c.loop-piece-test.false c.loop-piece.invariant)
    c.if-out-need.false _ _ c.put_all.ensures
