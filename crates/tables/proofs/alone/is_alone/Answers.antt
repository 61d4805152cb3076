use mathlib.Core.Path.{sym}
use Rattle.tables.proofs.Ranges.{clamps_name}
use Rattle.tables.proofs.Alones.{alone-name}
use Rattle.tables.proofs.alone.is_alone.Goals as goal

pub returns-then-mark-eq0 : goal.returns-then-mark-eq0
returns-then-mark-eq0 c = sym (c.requires.1 c.if-mark-eq0.true)

pub returns : goal.returns
returns c = let a = c.args in alone-name a.names.now a.rows.now a.row _ _ _ (clamps_name a.names.now a.rows.now a.row _ _ _ c.word.ensures c.word-2.ensures c.clamp-range.ensures) c.find_name.ensures c.is_row.ensures
