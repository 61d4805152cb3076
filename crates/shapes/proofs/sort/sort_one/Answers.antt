use mathlib.Core.Path.{sym, ◌∙◌}
use Rattle.shapes.proofs.Sorts.{one_option, one_set, one_none}
use Rattle.shapes.proofs.sort.sort_one.Goals as goal

pub returns-then-text_is : goal.returns-then-text_is
returns-then-text_is c = one_option _ _ _ _ _ (sym c.text_is.ensures ∙ c.if-text_is.true)

pub returns-then-text_is-2 : goal.returns-then-text_is-2
returns-then-text_is-2 c = one_set _ _ _ _ _ (sym c.text_is.ensures ∙ c.if-text_is.false) (sym c.text_is-2.ensures ∙ c.if-text_is-2.true)

pub returns : goal.returns
returns c = one_none _ _ _ _ _ (sym c.text_is.ensures ∙ c.if-text_is.false) (sym c.text_is-2.ensures ∙ c.if-text_is-2.false)
