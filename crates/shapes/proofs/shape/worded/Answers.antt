use mathlib.Core.Path.{sym, ◌∙◌}
use Rattle.shapes.proofs.Pairs.{pair-other, pair-index, pair-none, pair-empty, pair-other-word, pair-named}
use Rattle.shapes.proofs.shape.worded.Goals as goal

pub returns-in_default : goal.returns-in_default
returns-in_default c = pair-other _ _ _ _ _ _ c.symbol_at.ensures c.in_default.is

pub returns-then-text_is : goal.returns-then-text_is
returns-then-text_is c = pair-index _ _ _ _ _ _ _ _ c.symbol_at.ensures c.in-Some.is (sym c.text_is.ensures ∙ c.if-text_is.true) c.index.result c.index.ensures

pub returns-then-text_is-3 : goal.returns-then-text_is-3
returns-then-text_is-3 c = pair-none _ _ _ _ _ _ _ _ c.symbol_at.ensures c.in-Some.is (sym c.text_is.ensures ∙ c.if-text_is.false) (sym c.text_is-2.ensures ∙ c.if-text_is-2.true) _ c.after-sort.ensures (sym c.text_is-then-text_is-2.ensures ∙ c.if-text_is-3.true)

pub returns-then-text_is-4 : goal.returns-then-text_is-4
returns-then-text_is-4 c = pair-empty _ _ _ _ _ _ _ _ c.symbol_at.ensures c.in-Some.is (sym c.text_is.ensures ∙ c.if-text_is.false) (sym c.text_is-2.ensures ∙ c.if-text_is-2.true) _ c.after-sort.ensures (sym c.text_is-then-text_is-2.ensures ∙ c.if-text_is-3.false) (sym c.text_is-then-text_is-2-2.ensures ∙ c.if-text_is-4.true)

pub returns-else-text_is-4 : goal.returns-else-text_is-4
returns-else-text_is-4 c = pair-other-word _ _ _ _ _ _ _ _ c.symbol_at.ensures c.in-Some.is (sym c.text_is.ensures ∙ c.if-text_is.false) (sym c.text_is-2.ensures ∙ c.if-text_is-2.true) (sym c.text_is-then-text_is-2.ensures ∙ c.if-text_is-3.false) (sym c.text_is-then-text_is-2-2.ensures ∙ c.if-text_is-4.false)

pub returns-else-text_is-2 : goal.returns-else-text_is-2
returns-else-text_is-2 c = pair-named _ _ _ _ _ _ _ _ c.symbol_at.ensures c.in-Some.is (sym c.text_is.ensures ∙ c.if-text_is.false) (sym c.text_is-2.ensures ∙ c.if-text_is-2.false)
