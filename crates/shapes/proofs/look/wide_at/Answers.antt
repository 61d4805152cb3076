use mathlib.Core.Path.{sym, ◌∙◌}
use Rattle.shapes.proofs.Looks.{bits-there}
use Rattle.shapes.proofs.look.wide_at.Goals as goal

pub returns-in-BitVec : goal.returns-in-BitVec
returns-in-BitVec c = bits-there _ _ _ _ _ (sym c.node_at.ensures ∙ c.in-BitVec.is) c.if-width-eq-SIXTY_FOUR.true
