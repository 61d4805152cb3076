use Rattle.value_text.proofs.Sets.{set-none, set-short, set-closed}
use Rattle.value_text.proofs.set.close_set.Goals as goal

pub returns-then-end-place : goal.returns-then-end-place
returns-then-end-place c = set-none _ _ _ _ _ c.if-end-place.true c.put.ensures

pub returns-then-out-end : goal.returns-then-out-end
returns-then-out-end c = set-short _ _ _ _ _ c.if-out-end.true

pub returns : goal.returns
returns c = set-closed _ _ _ _ _ _ c.if-end-place.false c.if-out-end.false c.well_formed.0.0 c.close-count.auto.run c.close-count.ensures c.plus.ensures
