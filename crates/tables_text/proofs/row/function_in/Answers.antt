use Rattle.std.proofs.Common.{ap, not}
use mathlib.Core.Path.{sym, ◌∙◌}
use native.Mathlib.Omega.{arith}
use Rattle.ground.specs.Bytes.{bytes}
use Rattle.tables_text.proofs.Rows.{keyed, unkeyed, function-unkeyed, function_uncut, function-other, function-unread, function-row, function-within}
use Rattle.tables_text.proofs.row.function_in.Goals as goal

pub returns-then-not-starts : goal.returns-then-not-starts
returns-then-not-starts c = let a = c.args in function-unkeyed a.s.now (unkeyed _ (bytes "fun=") a.s.now c.starts.ensures (ap not c.if-not-starts.true))

pub returns-then-s-end : goal.returns-then-s-end
returns-then-s-end c = let a = c.args in function_uncut a.s.now (keyed _ (bytes "fun=") a.s.now c.starts.ensures (ap not c.if-not-starts.false)) _ c.end_at-end.ensures c.if-s-end.true

pub returns-in_err-first : goal.returns-in_err-first
returns-in_err-first c = let a = c.args in rw c.from_residual.ensures (function-other a.s.now (keyed _ (bytes "fun=") a.s.now c.starts.ensures (ap not c.if-not-starts.false)) _ c.end_at-end.ensures c.if-s-end.false (sym c.in_err-first.was ∙ c.number_before.ensures))

pub slice_bounds-number_in-count : goal.slice_bounds-number_in-count
slice_bounds-number_in-count c = let a = c.args in omega (arith, function-within a.s.now (keyed _ (bytes "fun=") a.s.now c.starts.ensures (ap not c.if-not-starts.false)) _ c.end_at-end.ensures c.if-s-end.false _ _ (sym c.in_ok-first.was ∙ c.number_before.ensures))

pub slice_bounds-number_in-start : goal.slice_bounds-number_in-start
slice_bounds-number_in-start c = let a = c.args in omega (arith, function-within a.s.now (keyed _ (bytes "fun=") a.s.now c.starts.ensures (ap not c.if-not-starts.false)) _ c.end_at-end.ensures c.if-s-end.false _ _ (sym c.in_ok-first.was ∙ c.number_before.ensures))

pub returns : goal.returns
returns c = let a = c.args in function-row a.s.now (keyed _ (bytes "fun=") a.s.now c.starts.ensures (ap not c.if-not-starts.false)) _ c.end_at-end.ensures c.if-s-end.false _ _ (sym c.in_ok-first.was ∙ c.number_before.ensures) _ c.number_in.ensures _ c.in_ok-result.was

pub returns-in_err-result : goal.returns-in_err-result
returns-in_err-result c = let a = c.args in rw c.from_residual-in_err-result.ensures (function-unread a.s.now (keyed _ (bytes "fun=") a.s.now c.starts.ensures (ap not c.if-not-starts.false)) _ c.end_at-end.ensures c.if-s-end.false _ _ (sym c.in_ok-first.was ∙ c.number_before.ensures) _ c.number_in.ensures c.in_err-result.was)
