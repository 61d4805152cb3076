use Rattle.listing.proofs.Wholes.{zeroed-none, zeroed-past, zeroed}
use Rattle.listing.proofs.list.clear_between.Goals as goal

pub returns-then-end-start : goal.returns-then-end-start
returns-then-end-start c = zeroed-none c.args.out.now c.args.start c.args.end _ c.if-end-start.true

pub returns-then-out-end : goal.returns-then-out-end
returns-then-out-end c = let a = c.args in zeroed-past a.out.now a.start a.end _ c.if-out-end.true

pub returns : goal.returns
returns c = let a = c.args in zeroed a.out.now a.start a.end _ c.clear.ensures
