use Rattle.std.proofs.Common.{ap, not}
use Rattle.ground.specs.Bytes.{bytes}
use Rattle.tables_text.proofs.Rows.{keyed, unkeyed, variable-unkeyed, variable_uncut, variable-other, variable-row}
use Rattle.tables_text.proofs.row.variable_in.Goals as goal

pub returns-then-not-starts : goal.returns-then-not-starts
returns-then-not-starts c = let a = c.args in variable-unkeyed a.s.now (unkeyed _ (bytes "var=") a.s.now c.starts.ensures (ap not c.if-not-starts.true))

pub returns-then-s-end : goal.returns-then-s-end
returns-then-s-end c = let a = c.args in variable_uncut a.s.now (keyed _ (bytes "var=") a.s.now c.starts.ensures (ap not c.if-not-starts.false)) _ c.end_at-end.ensures c.if-s-end.true

pub returns : goal.returns
returns c = let a = c.args in variable-row a.s.now (keyed _ (bytes "var=") a.s.now c.starts.ensures (ap not c.if-not-starts.false)) _ c.end_at-end.ensures c.if-s-end.false _ c.number_in.ensures _ c.in_ok-sort.was

pub returns-in_err-sort : goal.returns-in_err-sort
returns-in_err-sort c = let a = c.args in rw c.from_residual.ensures (variable-other a.s.now (keyed _ (bytes "var=") a.s.now c.starts.ensures (ap not c.if-not-starts.false)) _ c.end_at-end.ensures c.if-s-end.false _ c.number_in.ensures c.in_err-sort.was)
