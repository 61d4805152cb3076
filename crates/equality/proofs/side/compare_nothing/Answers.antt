use borrow.Enum.Refused.{opened}
use mathlib.Core.Path.{refl}
use mathlib.Core.List.{[], ◌∷◌}
use native.Mathlib.Omega.{arith}
use Rattle.forms.specs.declared.form.Form.{Form}
use Rattle.equality.proofs.Sides.{tags_differ, nothings}
use Rattle.equality.proofs.side.compare_nothing.Goals as goal

pub returns-in_default : goal.returns-in_default
returns-in_default c = let a = c.args in tags_differ Form.Nothing a.right 4 (omega arith) refl (0 ∷ 1 ∷ 2 ∷ 3 ∷ 5 ∷ 6 ∷ 7 ∷ 8 ∷ 9 ∷ 10 ∷ []) (opened c.in_default.in_default-own.keys2) tt

pub returns : goal.returns
returns c = let a = c.args in nothings a.right c.in-Nothing.is
