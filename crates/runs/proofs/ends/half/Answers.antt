use Rattle.runs.proofs.Pieces.{halved_middle, halved-first, halved_none}
use Rattle.runs.proofs.ends.half.Goals as goal

pub returns-then-p-ne0 : goal.returns-then-p-ne0
returns-then-p-ne0 c = halved_middle _ _ _ c.requires.0 c.begin-p.ensures c.if-p-ne0.true

pub returns-then-e-k : goal.returns-then-e-k
returns-then-e-k c = halved-first _ _ _ c.requires.1 c.after-e.ensures c.if-e-k.true

pub returns : goal.returns
returns c = halved_none _ _ _ c.requires.0 c.after-e.ensures c.if-e-k.false
