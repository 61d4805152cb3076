use Rattle.std.proofs.Common.{not}
use Rattle.tables.proofs.Rights.{own-no, own-yes}
use mathlib.Core.Path.{ap, ◌∙◌}
use Rattle.tables.specs.Kept.{kept}
use Rattle.tables.proofs.Ranges.{clamps_name}
use Rattle.tables.proofs.rules.is_own.Goals as goal

pub returns-then-not-is_name : goal.returns-then-not-is_name
returns-then-not-is_name c = let a = c.args in own-no a.names.now a.rows.now a.row _ c.is_name.ensures (ap not c.if-not-is_name.true)

pub returns : goal.returns
returns c = let a = c.args in own-yes a.names.now a.rows.now a.row _ c.is_name.ensures (ap not c.if-not-is_name.false) _ (c.is_kept.ensures ∙ ap kept (clamps_name a.names.now a.rows.now a.row _ _ _ c.word.ensures c.word-2.ensures c.clamp-range.ensures))
