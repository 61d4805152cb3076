use Rattle.parts.proofs.Trails.{pairing_start, pairing_one, pairing_two, pairing_step, pairing_end}
use Rattle.parts.proofs.lists.put_pairs.Goals as goal

pub loop-rest-init : goal.loop-rest-init
loop-rest-init c = pairing_start _ _ _ _ c.requires

pub slice_bounds-put_pair-count : goal.slice_bounds-put_pair-count
slice_bounds-put_pair-count c = (pairing_one _ _ _ _ _ _ _ _ _ c.in-len2-up.len_at_least c.loop-rest.invariant).up

pub slice_bounds-put_pair-start : goal.slice_bounds-put_pair-start
slice_bounds-put_pair-start c = (pairing_one _ _ _ _ _ _ _ _ _ c.in-len2-up.len_at_least c.loop-rest.invariant).up

pub slice_bounds-put_pair-end : goal.slice_bounds-put_pair-end
slice_bounds-put_pair-end c = (pairing_one _ _ _ _ _ _ _ _ _ c.in-len2-up.len_at_least c.loop-rest.invariant).within

pub slice_bounds-put_pair-count-in-len2-up : goal.slice_bounds-put_pair-count-in-len2-up
slice_bounds-put_pair-count-in-len2-up c = (pairing_two _ _ _ _ _ _ _ _ _ c.in-len2-up.len_at_least c.loop-rest.invariant).up

pub slice_bounds-put_pair-start-in-len2-up : goal.slice_bounds-put_pair-start-in-len2-up
slice_bounds-put_pair-start-in-len2-up c = (pairing_two _ _ _ _ _ _ _ _ _ c.in-len2-up.len_at_least c.loop-rest.invariant).up

pub slice_bounds-put_pair-end-in-len2-up : goal.slice_bounds-put_pair-end-in-len2-up
slice_bounds-put_pair-end-in-len2-up c = (pairing_two _ _ _ _ _ _ _ _ _ c.in-len2-up.len_at_least c.loop-rest.invariant).within

pub loop-rest-preserved : goal.loop-rest-preserved
loop-rest-preserved c = pairing_step _ _ _ _ _ _ _ _ _ c.in-len2-up.len_at_least c.loop-rest.invariant _ _ c.put_pair-to.ensures

pub returns : goal.returns
returns c = pairing_end _ _ _ _ _ _ _ _ _ c.in_default.len_below c.loop-rest.invariant
