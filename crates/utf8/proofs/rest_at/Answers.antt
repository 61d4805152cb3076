use mathlib.Core.Path.{sym, ◌∙◌}
use Rattle.utf8.specs.Rows.{◌to◌}
use Rattle.utf8.proofs.Scans.{row-stops, tails_start, tails_step, tails_stop, tails_end}
use Rattle.utf8.proofs.rest_at.Goals as goal

pub returns-then-not-octet_at : goal.returns-then-not-octet_at
returns-then-not-octet_at c = let a = c.args in row-stops a.s.now (a.first to a.last) a.i a.tails _ (sym (c.if-not-octet_at.true) ∙ c.octet_at.ensures)

pub loop-j-init : goal.loop-j-init
loop-j-init c = let a = c.args in tails_start a.s.now (a.first to a.last) a.i a.tails (sym (c.if-not-octet_at.false) ∙ c.octet_at.ensures)

pub returns-then-not-octet_at-2 : goal.returns-then-not-octet_at-2
returns-then-not-octet_at-2 c = tails_stop _ _ _ _ c.loop-j.invariant _ c.loop-j-test.true (sym (c.if-not-octet_at-2.true) ∙ c.octet_at-in-loop-j.ensures)

pub loop-j-preserved : goal.loop-j-preserved
loop-j-preserved c = tails_step _ _ _ _ c.loop-j.invariant c.loop-j-test.true (sym (c.if-not-octet_at-2.false) ∙ c.octet_at-in-loop-j.ensures)

pub returns : goal.returns
returns c = tails_end _ _ _ _ c.loop-j.invariant _ c.loop-j-test.false
