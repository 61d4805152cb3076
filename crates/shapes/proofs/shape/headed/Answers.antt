use mathlib.Core.Path.{sym, ◌∙◌}
use Rattle.shapes.proofs.Heads.{headed-first, headed-not_as, headed-second, headed-not-some, headed-some}
use Rattle.shapes.proofs.shape.headed.Goals as goal
use Rattle.shapes.proofs.shape.headed.Goals.{else-text_is-via-then-text_is+else-text_is-2, else-text_is-via-else-text_is}

pub returns-in_default : goal.returns-in_default
returns-in_default c = headed-first _ _ _ _ _ _ c.if-parts-ne3.false c.if-count-ne1.false _ c.symbol_at.ensures c.in_default.is

pub returns-in_default-symbol_at : goal.returns-in_default-symbol_at
returns-in_default-symbol_at c = headed-second _ _ _ _ _ _ c.if-parts-ne3.false c.if-count-ne1.false _ _ _ c.symbol_at.ensures c.in-Some.is _ c.after-second.ensures _ c.symbol_at-2.ensures c.in_default-symbol_at.is

pub returns-then-text_is-2 : goal.returns-then-text_is-2
returns-then-text_is-2 c = headed-some _ _ _ _ _ _ c.if-parts-ne3.false c.if-count-ne1.false _ _ _ c.symbol_at.ensures c.in-Some.is _ c.after-second.ensures _ _ _ c.symbol_at-2.ensures c.in-Some-symbol_at.is (sym c.text_is.ensures ∙ c.if-text_is.true) (sym c.text_is-then-text_is.ensures ∙ c.if-text_is-2.true) _ c.after-sort.ensures

pub returns : goal.returns
returns c =
    elim c.else-text_is.branch [
      | else-text_is-via-then-text_is+else-text_is-2 w ↦ headed-not-some _ _ _ _ _ _ c.if-parts-ne3.false c.if-count-ne1.false _ _ _ c.symbol_at.ensures c.in-Some.is _ c.after-second.ensures _ _ _ c.symbol_at-2.ensures c.in-Some-symbol_at.is (sym c.text_is.ensures ∙ w.if-text_is.true) (sym w.text_is-then-text_is.ensures ∙ w.if-text_is-2.false)
      | else-text_is-via-else-text_is w ↦ headed-not_as _ _ _ _ _ _ c.if-parts-ne3.false c.if-count-ne1.false _ _ _ c.symbol_at.ensures c.in-Some.is (sym c.text_is.ensures ∙ w.if-text_is.false)
    ]
