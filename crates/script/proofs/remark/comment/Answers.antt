use mathlib.Core.Path.{refl, sym, ◌∙◌}
use mathlib.Core.List.{[]}
use native.Mathlib.Omega.{arith}
use Rattle.parts.proofs.Limits.{none-long, exceeds-one, long-head}
use Rattle.script.proofs.Scripts.{scripted-long, scripted-short, scripted-line}
use Rattle.script.proofs.Lines.{comment-line}
use Rattle.script.proofs.Lengths.{comment-long}
use Rattle.lent.proofs.Offers.{offers_then, offers_as}
use Rattle.script.proofs.remark.comment.Goals as goal

pub returns-then-exceeds : goal.returns-then-exceeds
returns-then-exceeds c = scripted-long _ _ _ _ (sym (exceeds-one c.args.text.now [] c.exceeds.ensures (sym none-long)) ∙ c.if-exceeds.true)

pub overflow_add-need : goal.overflow_add-need
overflow_add-need c = let a = c.args in record { fits = omega (arith, long-head a.text.now [] (sym (exceeds-one a.text.now [] c.exceeds.ensures (sym none-long)) ∙ c.if-exceeds.false)) }

pub returns-then-out-need : goal.returns-then-out-need
returns-then-out-need c = let a = c.args in scripted-short _ _ _ _ (sym (exceeds-one a.text.now [] c.exceeds.ensures (sym none-long)) ∙ c.if-exceeds.false) refl _ (comment-long a.text.now) c.if-out-need.true

pub returns : goal.returns
returns c = let a = c.args in scripted-line _ _ _ _ (sym (exceeds-one a.text.now [] c.exceeds.ensures (sym none-long)) ∙ c.if-exceeds.false) refl _ (comment-long a.text.now) (omega (arith, c.if-out-need.false)) _ _ (offers_as (comment-line a.text.now) (offers_then c.put-first.ensures (offers_then c.put_spaced-second.ensures c.put.ensures)))
