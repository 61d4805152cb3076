use Rattle.parts.proofs.Rises.{checking_fall, checking_past, checking_step, checking_end}
use Rattle.parts.proofs.ends.check_ends.Goals as goal
use Rattle.parts.proofs.ends.check_ends.Goals.{then-end-last-via-then-end-last, then-end-last-via-else-end-last+then-size-end}

pub returns-then-end-last : goal.returns-then-end-last
returns-then-end-last c =
    elim c.then-end-last.branch [
      | then-end-last-via-then-end-last w ↦ checking_fall _ _ _ _ c.loop-end.invariant c.loop-end-test.true w.if-end-last.true
      | then-end-last-via-else-end-last+then-size-end w ↦ checking_past _ _ _ _ c.loop-end.invariant c.loop-end-test.true w.if-end-last.false w.if-size-end.true
    ]

pub loop-end-preserved : goal.loop-end-preserved
loop-end-preserved c = checking_step _ _ _ _ c.loop-end.invariant c.loop-end-test.true c.if-end-last.false c.if-size-end.false

pub returns : goal.returns
returns c = checking_end _ _ _ _ c.loop-end.invariant c.loop-end-test.false
