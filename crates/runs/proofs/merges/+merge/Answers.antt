use Rattle.std.proofs.Common.{arith, inl, inr}
use Rattle.runs.proofs.Joins.{merged-none, merged-all, merged-apart, merged-met, merged-never}
use Rattle.runs.proofs.Splits.{turned-fits, seam-within, first-falls, second-falls, merged-room, merged}
use Rattle.runs.proofs.merges.+merge.Goals as goal

pub returns-then-k-eq0 : goal.returns-then-k-eq0
returns-then-k-eq0 t c = elim c.then-k-eq0.either [ inl z ↦ merged-none _ _ _ z | inr b ↦ merged-all _ _ _ b.1 ]

pub returns-then-below : goal.returns-then-below
returns-then-below t c = merged-apart _ _ _ _ c.if-k-eq0.false c.if-s-k.false c.begin-p.ensures _ c.below.ensures c.if-below.true

pub meet-requires : goal.meet-requires
meet-requires t c = (omega (arith, c.begin-p.ensures.most), omega arith)

pub returns-then-not-below : goal.returns-then-not-below
returns-then-not-below t c = merged-met _ _ _ _ c.if-k-eq0.false c.if-s-k.false c.begin-p.ensures _ _ _ _ c.below.ensures c.if-below.false c.below-2.ensures c.if-not-below.true c.meet.ensures

pub returns-then-k-scratch : goal.returns-then-k-scratch
returns-then-k-scratch t c = c.weave.ensures

pub returns-then-b-eq0 : goal.returns-then-b-eq0
returns-then-b-eq0 t c = merged-never c.args.last c.args.s.now _ _ c.if-k-eq0.false c.if-s-k.false c.begin-p.ensures _ _ _ _ _ (turned-fits c.args.s.now c.rotate.new.s _ _ _ c.if-s-k.false c.half-h.ensures c.lower-q.ensures.least c.lower-q.ensures.within c.rotate.auto.s) c.below-2.ensures c.if-not-below.false c.half-h.ensures c.lower-q.ensures c.if-b-eq0.true

pub slice_bounds-merge-end : goal.slice_bounds-merge-end
slice_bounds-merge-end t c = omega (arith, seam-within c.args.s.now c.rotate.new.s _ _ _ c.if-s-k.false c.half-h.ensures c.lower-q.ensures.least c.lower-q.ensures.within c.rotate.auto.s)

pub merge-m-requires : goal.merge-m-requires
merge-m-requires t c = (first-falls c.args.s.now c.rotate.new.s _ _ _ c.if-s-k.false c.half-h.ensures c.lower-q.ensures.least c.lower-q.ensures.within c.rotate.auto.s _ c.decreases, tt)

pub merge-n-requires : goal.merge-n-requires
merge-n-requires t c = (second-falls c.args.s.now c.rotate.new.s _ _ _ c.if-s-k.false c.half-h.ensures c.lower-q.ensures.least c.lower-q.ensures.within c.rotate.auto.s _ c.merge-m.new.s c.decreases c.if-b-eq0.false c.merge-m.auto.s, tt)

pub draw-requires : goal.draw-requires
draw-requires t c = merged-room c.args.last c.args.s.now c.rotate.new.s c.merge-m.new.s c.merge-n.new.s c.args.k c.half-h.result c.lower-q.result _ _ c.if-s-k.false c.half-h.ensures c.lower-q.ensures c.rotate.auto.s c.merge-m.auto.s c.merge-m.ensures c.merge-n.auto.s c.merge-n.ensures

pub returns : goal.returns
returns t c = merged c.args.last c.args.s.now c.rotate.new.s c.merge-m.new.s c.merge-n.new.s _ c.args.k c.half-h.result c.lower-q.result _ _ _ c.if-s-k.false c.half-h.ensures c.lower-q.ensures c.rotate.auto.s c.rotate.ensures c.merge-m.auto.s c.merge-m.ensures c.merge-n.auto.s c.merge-n.ensures c.draw.ensures
