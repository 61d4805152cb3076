use Rattle.lent.proofs.Offers.{offers_then}
use Rattle.parts.proofs.lists.put_pair.Goals as goal

pub returns : goal.returns
returns c = offers_then c.put-one.ensures (offers_then c.put-two.ensures (offers_then c.put-three.ensures (offers_then c.put-four.ensures c.put.ensures)))
