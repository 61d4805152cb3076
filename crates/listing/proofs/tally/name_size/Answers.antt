use Rattle.listing.proofs.Sizes.{name-long}
use Rattle.listing.proofs.tally.name_size.Goals as goal

pub returns : goal.returns
returns c = let a = c.args in name-long a.names.now a.rows.now a.row _ _ c.clamp-range.result c.word.ensures c.word-2.ensures c.clamp-range.ensures
