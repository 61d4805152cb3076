use mathlib.Core.Path.{sym, ◌∙◌}
use native.Mathlib.Omega.{arith}
use Rattle.shapes.proofs.Pairs.{index-other, index_short, index-other-name, index_bv, bv_within}
use Rattle.shapes.proofs.shape.index.Goals as goal
use Rattle.shapes.proofs.shape.index.Goals.{else-long-ge2-via-then-long-ge2+else-text_is, else-long-ge2-via-else-long-ge2}

pub returns-in_default : goal.returns-in_default
returns-in_default c = index-other _ _ _ _ _ _ _ _ c.after-second.ensures _ c.numeral_at.ensures c.in_default.is

pub overflow_add-result : goal.overflow_add-result
overflow_add-result c = record { fits = omega (arith, bv_within _ _ _ _ (sym c.text_is.ensures ∙ c.if-text_is.true)) }

pub returns-then-text_is : goal.returns-then-text_is
returns-then-text_is c = index_bv _ _ _ _ _ _ _ _ c.after-second.ensures _ _ _ c.numeral_at.ensures c.in-Some.is c.if-long-ge2.true (sym c.text_is.ensures ∙ c.if-text_is.true)

pub returns : goal.returns
returns c =
    elim c.else-long-ge2.branch [
      | else-long-ge2-via-then-long-ge2+else-text_is w ↦ index-other-name _ _ _ _ _ _ _ _ c.after-second.ensures _ _ _ c.numeral_at.ensures c.in-Some.is w.if-long-ge2.true (sym w.text_is.ensures ∙ w.if-text_is.false)
      | else-long-ge2-via-else-long-ge2 w ↦ index_short _ _ _ _ _ _ _ _ c.after-second.ensures _ _ _ c.numeral_at.ensures c.in-Some.is w.if-long-ge2.false
    ]
