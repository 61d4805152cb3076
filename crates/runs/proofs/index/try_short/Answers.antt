use Rattle.runs.proofs.Listings.{tried}
use Rattle.runs.proofs.index.try_short.Goals as goal

pub returns : goal.returns
returns c = tried _ _ _ _ _ _ _ _ (rw c.in_ok-n.was at c.list.ensures) (rw c.in_ok-w.was at c.write.ensures) c.if-s-w.false c.copy.ensures
