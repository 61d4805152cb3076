use mathlib.Core.Path.{sym}
use mathlib.Core.List.{[]}
use Rattle.tables.proofs.Ranges.{clamps_name}
use Rattle.tables.proofs.Alones.{alone-named, alone-kind}
use Rattle.tables.proofs.alone.is_alone_sort.Goals as goal

pub returns-then-mark-eq0 : goal.returns-then-mark-eq0
returns-then-mark-eq0 c = sym (c.requires.1 c.if-mark-eq0.true)

pub returns-then-has_name : goal.returns-then-has_name
returns-then-has_name c = let a = c.args in alone-named a.names.now a.sorts.now a.row _ _ _ _ _ c.word-kind.ensures c.has_name.ensures c.if-has_name.true (clamps_name a.names.now a.sorts.now a.row _ _ _ c.word.ensures c.word-then-has_name.ensures c.clamp-range.ensures) c.find_named.ensures c.is_row.ensures

pub returns : goal.returns
returns c = let a = c.args in alone-kind a.names.now a.sorts.now a.row [] _ _ _ _ c.word-kind.ensures c.has_name.ensures c.if-has_name.false _ c.word-2.ensures c.find_kind.ensures c.is_row-2.ensures
