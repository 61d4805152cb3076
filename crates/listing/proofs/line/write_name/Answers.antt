use Rattle.listing.proofs.Pieces.{name_offered}
use Rattle.listing.proofs.line.write_name.Goals as goal

pub returns : goal.returns
returns c = let a = c.args in name_offered a.names.now a.rows.now a.row _ _ c.clamp-range.result c.word.ensures c.word-2.ensures c.clamp-range.ensures a.label.now a.out.now _ a.at _ c.write_line.ensures
