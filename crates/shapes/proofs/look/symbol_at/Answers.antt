use mathlib.Core.Path.{sym, ◌∙◌}
use Rattle.shapes.proofs.Looks.{symbol-there}
use Rattle.shapes.proofs.look.symbol_at.Goals as goal

pub returns-in-Symbol : goal.returns-in-Symbol
returns-in-Symbol c = symbol-there _ _ _ _ (sym c.node_at.ensures ∙ c.in-Symbol.is)
