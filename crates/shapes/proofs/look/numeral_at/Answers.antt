use mathlib.Core.Path.{sym, ◌∙◌}
use Rattle.shapes.proofs.Looks.{numeral-there}
use Rattle.shapes.proofs.look.numeral_at.Goals as goal

pub returns-in-Numeral : goal.returns-in-Numeral
returns-in-Numeral c = numeral-there _ _ _ _ (sym c.node_at.ensures ∙ c.in-Numeral.is)
