use Rattle.lent.proofs.Offers.{offers_then}
use Rattle.listing.proofs.line.write_number_line.Goals as goal

pub returns : goal.returns
returns c = offers_then c.put-one.ensures (offers_then c.write_number-two.ensures c.put.ensures)
