use Rattle.lent.proofs.Offers.{offers_tail}
use Rattle.parts.proofs.spaced.put_spaced.Goals as goal

pub returns : goal.returns
returns c = offers_tail _ _ _ _ _ c.copy_spaced.ensures
