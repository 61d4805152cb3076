use Rattle.arms.proofs.Settles.{lined}
use Rattle.arms.proofs.settle.line_up.Goals as goal

pub returns : goal.returns
returns c = lined _ _ _ _ c.arrange-count.ensures c.replace.ensures
