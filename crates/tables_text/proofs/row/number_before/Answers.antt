use Rattle.tables_text.proofs.Rows.{before-none, before-other, before-is}
use Rattle.tables_text.proofs.row.number_before.Goals as goal

pub returns-then-s-end : goal.returns-then-s-end
returns-then-s-end c = before-none c.args.s.now _ _ c.requires c.end_at-end.ensures c.if-s-end.true

pub returns : goal.returns
returns c = before-is c.args.s.now _ _ c.requires c.end_at-end.ensures c.if-s-end.false _ c.number_in.ensures _ c.in_ok-number.was

pub returns-in_err-number : goal.returns-in_err-number
returns-in_err-number c = rw c.from_residual.ensures (before-other c.args.s.now _ _ c.requires c.end_at-end.ensures c.if-s-end.false _ c.number_in.ensures c.in_err-number.was)
