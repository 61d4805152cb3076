use mathlib.Core.Path.{sym, ◌∙◌}
use Rattle.shapes.proofs.Heads.{applied-ite, applied_three}
use Rattle.shapes.proofs.shape.applied.Goals as goal

pub returns-in-3 : goal.returns-in-3
returns-in-3 c = applied-ite _ _ _ _ _ _ c.in-3.is (sym c.text_is.ensures ∙ c.if-text_is.true) _ _ c.after-left.ensures c.after-right.ensures

pub returns-in_default : goal.returns-in_default
returns-in_default c = applied_three _ _ _ _ _ _ c.in-3.is (sym c.text_is.ensures ∙ c.if-text_is.false)
