use Rattle.lent.proofs.Offers.{offers_tail}
use Rattle.lent.proofs.put.Goals as goal

pub returns : goal.returns
returns c = offers_tail _ _ _ _ _ c.copy.ensures
