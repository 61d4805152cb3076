use mathlib.Core.Path.{sym, ◌∙◌}
use Rattle.shapes.proofs.Sorts.{two-word, two-index, two-width, two-unnamed, two-other}
use Rattle.shapes.proofs.sort.sort_two.Goals as goal
use Rattle.shapes.proofs.sort.sort_two.Goals.{else-text_is-via-then-text_is+else-text_is-2, else-text_is-via-else-text_is}

pub returns-in_default : goal.returns-in_default
returns-in_default c = two-word _ _ _ _ _ _ c.symbol_at.ensures c.in_default.is

pub returns-in_default-numeral_at : goal.returns-in_default-numeral_at
returns-in_default-numeral_at c = two-index _ _ _ _ _ _ _ _ c.symbol_at.ensures c.in-Some.is _ c.after-second.ensures _ c.numeral_at.ensures c.in_default-numeral_at.is

pub returns-then-text_is-2 : goal.returns-then-text_is-2
returns-then-text_is-2 c = two-width _ _ _ _ _ _ _ _ c.symbol_at.ensures c.in-Some.is _ c.after-second.ensures _ _ _ c.numeral_at.ensures c.in-Some-numeral_at.is (sym c.text_is.ensures ∙ c.if-text_is.true) (sym c.text_is-then-text_is.ensures ∙ c.if-text_is-2.true)

pub returns : goal.returns
returns c =
    elim c.else-text_is.branch [
      | else-text_is-via-then-text_is+else-text_is-2 w ↦ two-unnamed _ _ _ _ _ _ _ _ c.symbol_at.ensures c.in-Some.is _ c.after-second.ensures _ _ _ c.numeral_at.ensures c.in-Some-numeral_at.is (sym c.text_is.ensures ∙ w.if-text_is.true) (sym w.text_is-then-text_is.ensures ∙ w.if-text_is-2.false)
      | else-text_is-via-else-text_is w ↦ two-other _ _ _ _ _ _ _ _ c.symbol_at.ensures c.in-Some.is _ c.after-second.ensures _ _ _ c.numeral_at.ensures c.in-Some-numeral_at.is (sym c.text_is.ensures ∙ w.if-text_is.false)
    ]
