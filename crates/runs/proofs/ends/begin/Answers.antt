use Rattle.runs.proofs.Pieces.{seeking_start, seeking_next, seeking_found, seeking_end}
use Rattle.runs.proofs.ends.begin.Goals as goal

pub loop-i-init : goal.loop-i-init
loop-i-init c = search (seeking_start)

pub returns-then-s-i-eq-END : goal.returns-then-s-i-eq-END
returns-then-s-i-eq-END c = search (seeking_found)

pub loop-i-preserved : goal.loop-i-preserved
loop-i-preserved c = search (seeking_next)

pub returns : goal.returns
returns c = search (seeking_end)
