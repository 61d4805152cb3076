use borrow.Enum.Refused.{opened}
use mathlib.Core.Path.{refl}
use mathlib.Core.List.{[], ◌∷◌}
use native.Mathlib.Omega.{arith}
use Rattle.forms.specs.declared.form.Form.{Form}
use Rattle.equality.proofs.Sides.{tags_differ, numbers}
use Rattle.equality.proofs.side.compare_number.Goals as goal

pub returns-in_default : goal.returns-in_default
returns-in_default c = let a = c.args in tags_differ (Form.Number a.kind a.low) a.right 2 (omega arith) refl (0 ∷ 1 ∷ 3 ∷ 4 ∷ 5 ∷ 6 ∷ 7 ∷ 8 ∷ 9 ∷ 10 ∷ []) (opened c.in_default.in_default-own.keys2) tt

pub returns : goal.returns
returns c = let a = c.args in numbers a.right a.kind a.low _ _ _ c.in-Number.is c.same_number.ensures
