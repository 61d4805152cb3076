use Prim.Native.Nat.{◌*◌, ◌+◌}
use native.Mathlib.Omega.{arith}
use lib.Seq.{lt-length-set}
use Rattle.walk.proofs.Lasts.{lt_two}
use Rattle.walk.proofs.last.keep.Goals as goal

pub returns-then-last-slot : goal.returns-then-last-slot
returns-then-last-slot c = λ h. absurd (omega (arith, h, c.if-last-slot.true))

pub bounds-last-slot-2 : goal.bounds-last-slot-2
bounds-last-slot-2 c = lt-length-set c.args.last.now (c.args.slot * 3 + 0) _ (omega (arith, c.if-last-slot.false))

pub bounds-last-slot-3 : goal.bounds-last-slot-3
bounds-last-slot-3 c = let a = c.args in lt_two a.last.now (a.slot * 3 + 0) (a.slot * 3 + 1) _ _ (omega (arith, c.if-last-slot.false))
