use Rattle.runs.proofs.Listings.{listing_start, listing-fits, listing-falls, listing-next, listing-end}
use Rattle.runs.proofs.index.list.Goals as goal

pub loop-p-init : goal.loop-p-init
loop-p-init c = search (listing_start)

pub settle-n-requires : goal.settle-n-requires
settle-n-requires c = listing-fits _ _ _ _ _ _ c.loop-p.invariant c.loop-p-test.true c.if-n-ge-PLACES.false

pub loop-p-smaller : goal.loop-p-smaller
loop-p-smaller c = listing-falls _ _ _ _ _ _ _ _ _ c.loop-p.invariant c.loop-p-test.true c.settle-n.ensures c.settle-n.auto.index c.if-n-ge-PLACES.false c.after-p.ensures

pub loop-p-preserved : goal.loop-p-preserved
loop-p-preserved c = listing-next _ _ _ _ _ _ _ _ _ c.loop-p.invariant c.loop-p-test.true c.settle-n.ensures c.settle-n.auto.index c.if-n-ge-PLACES.false c.after-p.ensures

pub returns : goal.returns
returns c = search (listing-end)
