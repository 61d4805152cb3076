use mathlib.Core.Path.{sym, ◌∙◌}
use Rattle.shapes.proofs.Arms.{ext-not-wide, ext-decimal, ext_datetime, ext_duration, ext-made}
use Rattle.shapes.proofs.shape.extension.Goals as goal

pub returns-in_default : goal.returns-in_default
returns-in_default c = ext-not-wide _ _ _ _ _ _ c.wide_at.ensures c.in_default.is

pub returns-then-text_is : goal.returns-then-text_is
returns-then-text_is c = ext-decimal _ _ _ _ _ _ _ c.wide_at.ensures c.in-Some.is (sym c.text_is.ensures ∙ c.if-text_is.true)

pub returns-then-text_is-2 : goal.returns-then-text_is-2
returns-then-text_is-2 c = ext_datetime _ _ _ _ _ _ _ c.wide_at.ensures c.in-Some.is (sym c.text_is.ensures ∙ c.if-text_is.false) (sym c.text_is-2.ensures ∙ c.if-text_is-2.true)

pub returns-then-text_is-3 : goal.returns-then-text_is-3
returns-then-text_is-3 c = ext_duration _ _ _ _ _ _ _ c.wide_at.ensures c.in-Some.is (sym c.text_is.ensures ∙ c.if-text_is.false) (sym c.text_is-2.ensures ∙ c.if-text_is-2.false) (sym c.text_is-3.ensures ∙ c.if-text_is-3.true)

pub returns : goal.returns
returns c = ext-made _ _ _ _ _ _ _ c.wide_at.ensures c.in-Some.is (sym c.text_is.ensures ∙ c.if-text_is.false) (sym c.text_is-2.ensures ∙ c.if-text_is-2.false) (sym c.text_is-3.ensures ∙ c.if-text_is-3.false)
