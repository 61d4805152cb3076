use mathlib.Core.Path.{sym, ◌∙◌}
use Rattle.shapes.proofs.Arms.{two_or, two-equal, two-bvsaddo, two-bvsmulo, two-union, two_v4, two_v6, two-pair}
use Rattle.shapes.proofs.shape.two.Goals as goal
use Rattle.shapes.proofs.shape.two.Goals.{then-text_is-6-via-then-text_is-6, then-text_is-6-via-else-text_is-6+then-text_is-7}

pub returns-then-text_is : goal.returns-then-text_is
returns-then-text_is c = two_or _ _ _ _ _ _ c.after-second.ensures (sym c.text_is.ensures ∙ c.if-text_is.true)

pub returns-then-text_is-2 : goal.returns-then-text_is-2
returns-then-text_is-2 c = two-equal _ _ _ _ _ _ c.after-second.ensures (sym c.text_is.ensures ∙ c.if-text_is.false) (sym c.text_is-2.ensures ∙ c.if-text_is-2.true)

pub returns-then-text_is-3 : goal.returns-then-text_is-3
returns-then-text_is-3 c = two-bvsaddo _ _ _ _ _ _ c.after-second.ensures (sym c.text_is.ensures ∙ c.if-text_is.false) (sym c.text_is-2.ensures ∙ c.if-text_is-2.false) (sym c.text_is-3.ensures ∙ c.if-text_is-3.true)

pub returns-then-text_is-4 : goal.returns-then-text_is-4
returns-then-text_is-4 c = two-bvsmulo _ _ _ _ _ _ c.after-second.ensures (sym c.text_is.ensures ∙ c.if-text_is.false) (sym c.text_is-2.ensures ∙ c.if-text_is-2.false) (sym c.text_is-3.ensures ∙ c.if-text_is-3.false) (sym c.text_is-4.ensures ∙ c.if-text_is-4.true)

pub returns-then-text_is-5 : goal.returns-then-text_is-5
returns-then-text_is-5 c = two-union _ _ _ _ _ _ c.after-second.ensures (sym c.text_is.ensures ∙ c.if-text_is.false) (sym c.text_is-2.ensures ∙ c.if-text_is-2.false) (sym c.text_is-3.ensures ∙ c.if-text_is-3.false) (sym c.text_is-4.ensures ∙ c.if-text_is-4.false) (sym c.text_is-5.ensures ∙ c.if-text_is-5.true)

pub returns-then-text_is-6 : goal.returns-then-text_is-6
returns-then-text_is-6 c =
    elim c.then-text_is-6.branch [
      | then-text_is-6-via-then-text_is-6 w ↦ two_v4 _ _ _ _ _ (sym c.text_is.ensures ∙ c.if-text_is.false) (sym c.text_is-2.ensures ∙ c.if-text_is-2.false) (sym c.text_is-3.ensures ∙ c.if-text_is-3.false) (sym c.text_is-4.ensures ∙ c.if-text_is-4.false) (sym c.text_is-5.ensures ∙ c.if-text_is-5.false) (sym c.text_is-6.ensures ∙ w.if-text_is-6.true)
      | then-text_is-6-via-else-text_is-6+then-text_is-7 w ↦ two_v6 _ _ _ _ _ (sym c.text_is.ensures ∙ c.if-text_is.false) (sym c.text_is-2.ensures ∙ c.if-text_is-2.false) (sym c.text_is-3.ensures ∙ c.if-text_is-3.false) (sym c.text_is-4.ensures ∙ c.if-text_is-4.false) (sym c.text_is-5.ensures ∙ c.if-text_is-5.false) (sym c.text_is-6.ensures ∙ w.if-text_is-6.false) (sym w.text_is-else-text_is-6.ensures ∙ w.if-text_is-7.true)
    ]

pub returns : goal.returns
returns c = two-pair _ _ _ _ _ (sym c.text_is.ensures ∙ c.if-text_is.false) (sym c.text_is-2.ensures ∙ c.if-text_is-2.false) (sym c.text_is-3.ensures ∙ c.if-text_is-3.false) (sym c.text_is-4.ensures ∙ c.if-text_is-4.false) (sym c.text_is-5.ensures ∙ c.if-text_is-5.false) (sym c.text_is-6.ensures ∙ c.if-text_is-6.false) (sym c.text_is-else-text_is-6.ensures ∙ c.if-text_is-7.false) c.worded.result c.worded.ensures
