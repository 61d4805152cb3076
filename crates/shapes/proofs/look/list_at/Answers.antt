use mathlib.Core.Path.{sym, ◌∙◌}
use Rattle.shapes.proofs.Looks.{list-there}
use Rattle.shapes.proofs.look.list_at.Goals as goal

pub returns-in-App : goal.returns-in-App
returns-in-App c = list-there _ _ _ _ (sym c.node_at.ensures ∙ c.in-App.is)
