use Rattle.runs.proofs.Words.{skipping_start, skipping_next, skipped}
use Rattle.runs.proofs.keys.past_same.Goals as goal

pub loop-i-init : goal.loop-i-init
loop-i-init c = search (skipping_start)

pub returns-then-b-j : goal.returns-then-b-j
returns-then-b-j c = search (skipped)

pub returns-then-a-i : goal.returns-then-a-i
returns-then-a-i c = search (skipped)

pub returns-then-a-i-le-STOP : goal.returns-then-a-i-le-STOP
returns-then-a-i-le-STOP c = search (skipped)

pub loop-i-preserved : goal.loop-i-preserved
loop-i-preserved c = search (skipping_next)

pub returns : goal.returns
returns c = search (skipped)
