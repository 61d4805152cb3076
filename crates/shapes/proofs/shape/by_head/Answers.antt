use mathlib.Core.Path.{sym, ◌∙◌}
use native.Mathlib.Omega.{arith}
use mathlib.Core.Path.{refl}
use Rattle.arena.proofs.Views.{node-within}
use Rattle.shapes.proofs.Heads.{by-atom, by-symbol, by-list}
use Rattle.shapes.proofs.shape.by_head.Goals as goal

pub overflow_add-at : goal.overflow_add-at
overflow_add-at c = record { fits = omega (arith, node-within _ _ (sym c.node_at.ensures ∙ c.in-Symbol.is) refl) }

pub overflow_add-at-in-App : goal.overflow_add-at-in-App
overflow_add-at-in-App c = record { fits = omega (arith, node-within _ _ (sym c.node_at.ensures ∙ c.in-App.is) refl) }

pub returns-in-Symbol : goal.returns-in-Symbol
returns-in-Symbol c = by-symbol _ _ _ _ _ _ (sym c.node_at.ensures ∙ c.in-Symbol.is) c.applied.result c.applied.ensures

pub returns-in-App : goal.returns-in-App
returns-in-App c = by-list _ _ _ _ _ _ (sym c.node_at.ensures ∙ c.in-App.is) c.headed.result c.headed.ensures

pub returns-in_default : goal.returns-in_default
returns-in_default c = by-atom _ _ _ _ (λ x y e. c.in_default.not-Symbol x y (c.node_at.ensures ∙ e)) (λ x y e. c.in_default.not-App x y (c.node_at.ensures ∙ e))
