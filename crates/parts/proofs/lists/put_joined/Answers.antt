use mathlib.Core.Path.{sym}
use Rattle.lent.proofs.Offers.{offers_none, offers_as}
use Rattle.parts.proofs.Trails.{trailing_start, trailing_next, trailing_end, leading-first, leading-later, leading_step}
use Rattle.parts.proofs.lists.put_joined.Goals as goal
use Rattle.parts.proofs.lists.put_joined.Goals.{then-i-ne0, else-i-ne0}

pub loop-i-init : goal.loop-i-init
loop-i-init c = trailing_start _ _ _ _ _ c.requires

pub slice_bounds-put-count : goal.slice_bounds-put-count
slice_bounds-put-count c = (trailing_next _ _ _ _ _ _ _ _ _ _ c.loop-i.invariant c.loop-i-test.true).up

pub slice_bounds-put-start : goal.slice_bounds-put-start
slice_bounds-put-start c = (trailing_next _ _ _ _ _ _ _ _ _ _ c.loop-i.invariant c.loop-i-test.true).up

pub slice_bounds-put-end : goal.slice_bounds-put-end
slice_bounds-put-end c = (trailing_next _ _ _ _ _ _ _ _ _ _ c.loop-i.invariant c.loop-i-test.true).within

pub loop-i-preserved : goal.loop-i-preserved
loop-i-preserved c =
    leading_step _ _ _ _ _ _ _ _ _ c.loop-i.invariant c.loop-i-test.true c.if-i-ne0.out _ c.if-i-ne0.to _
    (elim c.if-i-ne0.branch [
      | then-i-ne0 w ↦ rw w.out-is (rw w.to-is (offers_as (sym (leading-later _ _ w.if-i-ne0.true)) w.put-to.ensures))
      | else-i-ne0 w ↦ rw w.out-is (rw w.to-is (offers_as (sym (leading-first _ _ w.if-i-ne0.false)) (offers_none _ _)))
    ])
    c.put-to-in-loop-i.ensures

pub returns : goal.returns
returns c = trailing_end _ _ _ _ _ _ _ _ _ _ c.loop-i.invariant c.loop-i-test.false
