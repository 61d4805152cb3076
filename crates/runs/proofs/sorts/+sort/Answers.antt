use native.Mathlib.Omega.{arith}
use Rattle.runs.proofs.Orders.{sorted_none, sorted-one, left-falls, right-falls, sorted-room, sorted-within, sorted-two, sorted-from}
use Rattle.runs.proofs.sorts.+sort.Goals as goal

pub returns-then-s-eq0 : goal.returns-then-s-eq0
returns-then-s-eq0 t c = sorted_none _ _ c.if-s-eq0.true

pub returns-then-k-eq0 : goal.returns-then-k-eq0
returns-then-k-eq0 t c = sorted-one _ _ _ _ c.if-s-eq0.false (rw c.in_default.is at c.try_short.ensures) c.half-k.ensures c.if-k-eq0.true

pub sort-m-requires : goal.sort-m-requires
sort-m-requires t c = (left-falls c.try_short.new.s _ _ _ c.half-k.ensures c.try_short.auto.s c.decreases, tt)

pub sort-n-requires : goal.sort-n-requires
sort-n-requires t c = (right-falls c.try_short.new.s c.sort-m.new.s _ _ _ c.half-k.ensures c.if-k-eq0.false c.try_short.auto.s c.decreases c.sort-m.auto.s, tt)

pub draw-e-requires : goal.draw-e-requires
draw-e-requires t c = sorted-room c.args.last c.try_short.new.s c.sort-m.new.s c.sort-n.new.s _ _ _ c.half-k.ensures c.sort-m.auto.s c.sort-m.ensures c.sort-n.auto.s c.sort-n.ensures

pub slice_bounds-merge-end : goal.slice_bounds-merge-end
slice_bounds-merge-end t c = omega (arith, sorted-within c.args.last c.try_short.new.s c.sort-m.new.s c.sort-n.new.s _ _ _ c.half-k.ensures c.sort-m.auto.s c.sort-m.ensures c.sort-n.auto.s c.sort-n.ensures c.draw-e.new.s _ c.draw-e.ensures)

pub returns : goal.returns
returns t c = sorted-from c.args.last c.args.s.now c.try_short.new.s _ _ (rw c.in_default.is at c.try_short.ensures) (sorted-two c.args.last c.try_short.new.s c.sort-m.new.s c.sort-n.new.s _ _ _ c.half-k.ensures c.sort-m.auto.s c.sort-m.ensures c.sort-n.auto.s c.sort-n.ensures c.draw-e.new.s _ c.draw-e.ensures c.merge.new.s _ c.merge.auto.s c.merge.ensures)
