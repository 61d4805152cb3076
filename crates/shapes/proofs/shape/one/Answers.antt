use mathlib.Core.Path.{sym, ◌∙◌}
use Rattle.shapes.proofs.Arms.{one-not, one-bvnego, one-some, one-singleton, one-ext}
use Rattle.shapes.proofs.shape.one.Goals as goal

pub returns-then-text_is : goal.returns-then-text_is
returns-then-text_is c = one-not _ _ _ _ _ (sym c.text_is.ensures ∙ c.if-text_is.true)

pub returns-then-text_is-2 : goal.returns-then-text_is-2
returns-then-text_is-2 c = one-bvnego _ _ _ _ _ (sym c.text_is.ensures ∙ c.if-text_is.false) (sym c.text_is-2.ensures ∙ c.if-text_is-2.true)

pub returns-then-text_is-3 : goal.returns-then-text_is-3
returns-then-text_is-3 c = one-some _ _ _ _ _ (sym c.text_is.ensures ∙ c.if-text_is.false) (sym c.text_is-2.ensures ∙ c.if-text_is-2.false) (sym c.text_is-3.ensures ∙ c.if-text_is-3.true)

pub returns-then-text_is-4 : goal.returns-then-text_is-4
returns-then-text_is-4 c = one-singleton _ _ _ _ _ (sym c.text_is.ensures ∙ c.if-text_is.false) (sym c.text_is-2.ensures ∙ c.if-text_is-2.false) (sym c.text_is-3.ensures ∙ c.if-text_is-3.false) (sym c.text_is-4.ensures ∙ c.if-text_is-4.true)

pub returns : goal.returns
returns c = one-ext _ _ _ _ _ (sym c.text_is.ensures ∙ c.if-text_is.false) (sym c.text_is-2.ensures ∙ c.if-text_is-2.false) (sym c.text_is-3.ensures ∙ c.if-text_is-3.false) (sym c.text_is-4.ensures ∙ c.if-text_is-4.false) c.extension.result c.extension.ensures
