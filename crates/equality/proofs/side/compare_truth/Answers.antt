use borrow.Enum.Refused.{opened}
use mathlib.Core.Path.{refl, sym, ap}
use mathlib.Core.List.{[], ◌∷◌}
use native.Mathlib.Omega.{arith}
use Rattle.forms.specs.declared.form.Form.{Form}
use Rattle.equality.proofs.Sides.{tags_differ, truths}
use mathlib.Core.Bool.{Bool, not, cond}
use Rattle.equality.proofs.side.compare_truth.Goals as goal

pub returns-in_default : goal.returns-in_default
returns-in_default c = let a = c.args in tags_differ (Form.Truth a.truth) a.right 0 (omega arith) refl (1 ∷ 2 ∷ 3 ∷ 4 ∷ 5 ∷ 6 ∷ 7 ∷ 8 ∷ 9 ∷ 10 ∷ []) (opened c.in_default.in_default-own.keys2) tt

pub returns-then-truth : goal.returns-then-truth
returns-then-truth c = let a = c.args in truths a.right a.truth _ _ c.in-Truth.is (sym (ap (λ (x : Bool). cond x c.in-Truth.other (not c.in-Truth.other)) c.if-truth.true))

pub returns : goal.returns
returns c = let a = c.args in truths a.right a.truth _ _ c.in-Truth.is (sym (ap (λ (x : Bool). cond x c.in-Truth.other (not c.in-Truth.other)) c.if-truth.false))
