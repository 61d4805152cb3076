use Rattle.lent.proofs.Offers.{offers_then}
use Rattle.listing.proofs.header.write_header.Goals as goal

pub returns : goal.returns
returns c = offers_then c.write_number_line-one.ensures c.write_number_line.ensures
