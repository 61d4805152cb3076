use borrow.Enum.Refused.{opened}
use mathlib.Core.Path.{refl}
use mathlib.Core.List.{[], ◌∷◌}
use native.Mathlib.Omega.{arith}
use Rattle.forms.specs.declared.form.Form.{Form}
use Rattle.equality.proofs.Sides.{tags_differ, sets}
use Rattle.equality.proofs.side.compare_set.Goals as goal

pub returns-in_default : goal.returns-in_default
returns-in_default c = let a = c.args in tags_differ Form.Set a.right 6 (omega arith) refl (0 ∷ 1 ∷ 2 ∷ 3 ∷ 4 ∷ 5 ∷ 7 ∷ 8 ∷ 9 ∷ 10 ∷ []) (opened c.in_default.in_default-own.keys2) tt

pub returns : goal.returns
returns c = let a = c.args in sets a.right c.in-Set.is
