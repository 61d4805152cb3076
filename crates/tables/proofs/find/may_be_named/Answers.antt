use Rattle.std.proofs.Common.{ap, not}
use mathlib.Core.Path.{refl}
use Rattle.tables.proofs.Glances.{may_be, not-long, last-there, last-tells}
use borrow.Author.Rules.{rules}
use Rattle.tables.proofs.find.may_be_named.Goals as goal

pub returns-then-not-is_inside : goal.returns-then-not-is_inside
returns-then-not-is_inside c = let a = c.args in may_be a.rows.now a.names.now a.name.now a.row

pub returns-then-size-name : goal.returns-then-size-name
returns-then-size-name c = let a = c.args in not-long a.rows.now a.names.now a.name.now a.row _ _ c.word-first.ensures c.word-size.ensures _ c.is_inside.ensures (ap not c.if-not-is_inside.false) c.if-size-name.true

pub returns-then-size-eq0 : goal.returns-then-size-eq0
returns-then-size-eq0 c = let a = c.args in may_be a.rows.now a.names.now a.name.now a.row

pub overflow_add-there : goal.overflow_add-there
overflow_add-there c = let a = c.args in let h = last-there a.rows.now a.names.now a.name.now a.row _ _ c.word-first.ensures c.word-size.ensures _ c.is_inside.ensures (ap not c.if-not-is_inside.false) c.if-size-name.false c.if-size-eq0.false _ refl in search rules

pub bounds-names-there : goal.bounds-names-there
bounds-names-there c = let a = c.args in let h = last-there a.rows.now a.names.now a.name.now a.row _ _ c.word-first.ensures c.word-size.ensures _ c.is_inside.ensures (ap not c.if-not-is_inside.false) c.if-size-name.false c.if-size-eq0.false _ refl in search rules

pub returns : goal.returns
returns c = let a = c.args in last-tells a.rows.now a.names.now a.name.now a.row _ _ c.word-first.ensures c.word-size.ensures _ c.is_inside.ensures (ap not c.if-not-is_inside.false) c.if-size-name.false c.if-size-eq0.false _ refl
