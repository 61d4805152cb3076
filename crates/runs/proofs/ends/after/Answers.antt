use Rattle.runs.proofs.Pieces.{sofar-start, sofar-next, sofar-last, sofar-end}
use Rattle.runs.proofs.ends.after.Goals as goal

pub loop-i-init : goal.loop-i-init
loop-i-init c = search (sofar-start)

pub returns-then-s-i-eq-END : goal.returns-then-s-i-eq-END
returns-then-s-i-eq-END c = search (sofar-last)

pub loop-i-preserved : goal.loop-i-preserved
loop-i-preserved c = search (sofar-next)

pub returns : goal.returns
returns c = search (sofar-end)
