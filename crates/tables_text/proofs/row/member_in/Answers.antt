use Rattle.std.proofs.Common.{ap, not}
use mathlib.Core.Path.{sym, ◌∙◌}
use native.Mathlib.Omega.{arith}
use Rattle.ground.specs.Bytes.{bytes}
use Rattle.tables_text.proofs.Rows.{keyed, unkeyed, member-unkeyed, member_uncut, member-other, member-row, member-within}
use Rattle.tables_text.proofs.row.member_in.Goals as goal

pub returns-then-not-starts : goal.returns-then-not-starts
returns-then-not-starts c = let a = c.args in member-unkeyed a.s.now (unkeyed _ (bytes "enum=") a.s.now c.starts.ensures (ap not c.if-not-starts.true))

pub returns-then-s-end : goal.returns-then-s-end
returns-then-s-end c = let a = c.args in member_uncut a.s.now (keyed _ (bytes "enum=") a.s.now c.starts.ensures (ap not c.if-not-starts.false)) _ c.end_at-end.ensures c.if-s-end.true

pub overflow_sub-result-2 : goal.overflow_sub-result-2
overflow_sub-result-2 c = let a = c.args in omega (arith, member-within a.s.now (keyed _ (bytes "enum=") a.s.now c.starts.ensures (ap not c.if-not-starts.false)) _ c.end_at-end.ensures c.if-s-end.false _ _ (sym c.in_ok-first.was ∙ c.number_before.ensures))

pub returns : goal.returns
returns c = let a = c.args in member-row a.s.now (keyed _ (bytes "enum=") a.s.now c.starts.ensures (ap not c.if-not-starts.false)) _ c.end_at-end.ensures c.if-s-end.false _ _ (sym c.in_ok-first.was ∙ c.number_before.ensures)

pub returns-in_err-first : goal.returns-in_err-first
returns-in_err-first c = let a = c.args in rw c.from_residual.ensures (member-other a.s.now (keyed _ (bytes "enum=") a.s.now c.starts.ensures (ap not c.if-not-starts.false)) _ c.end_at-end.ensures c.if-s-end.false (sym c.in_err-first.was ∙ c.number_before.ensures))
