use Rattle.runs.proofs.Pairs.{pairs-long}
use native.Mathlib.Omega.{arith}
use Rattle.runs.proofs.Finds.{settled_before, settled-last, settled-later, settled-earlier}
use Rattle.runs.proofs.index.settle.Goals.{then-n-at-via-then-n-at, then-n-at-via-else-n-at+then-below}
use Rattle.runs.proofs.index.settle.Goals as goal

pub insert-requires : goal.insert-requires
insert-requires c = (c.find-at.ensures.within, c.requires.0, c.requires.1)

pub overflow_add-result : goal.overflow_add-result
overflow_add-result c = record { fits = omega (arith, pairs-long c.args.index.now) }

pub returns-then-n-at : goal.returns-then-n-at
returns-then-n-at c = elim c.then-n-at.branch [
  | then-n-at-via-then-n-at w ↦ settled-last _ c.args.s.now _ _ _ _ c.requires.0 c.find-at.ensures _ w.if-n-at.true c.insert.ensures
  | then-n-at-via-else-n-at+then-below w ↦ settled_before _ c.args.s.now _ _ _ _ c.requires.0 c.find-at.ensures _ _ _ w.if-n-at.false w.place.ensures.same w.below.ensures w.if-below.true c.insert.ensures
]

pub returns-then-last : goal.returns-then-last
returns-then-last c = settled-later _ c.args.s.now _ _ _ _ c.requires.0 c.find-at.ensures _ _ _ c.if-n-at.false c.place.ensures.same c.below.ensures c.if-below.false c.if-last.true c.set_place.ensures

pub returns-else-last : goal.returns-else-last
returns-else-last c = settled-earlier _ c.args.s.now _ _ _ _ c.requires.0 c.find-at.ensures _ _ c.if-n-at.false c.place.ensures.same c.below.ensures c.if-below.false c.if-last.false
