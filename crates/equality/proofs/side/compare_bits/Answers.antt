use borrow.Enum.Refused.{opened}
use mathlib.Core.Path.{refl}
use mathlib.Core.List.{[], ◌∷◌}
use native.Mathlib.Omega.{arith}
use Rattle.forms.specs.declared.form.Form.{Form}
use Rattle.equality.proofs.Sides.{tags_differ, vectors}
use Rattle.equality.proofs.side.compare_bits.Goals as goal

pub returns-in_default : goal.returns-in_default
returns-in_default c = let a = c.args in tags_differ (Form.Bits a.width a.low a.high) a.right 3 (omega arith) refl (0 ∷ 1 ∷ 2 ∷ 4 ∷ 5 ∷ 6 ∷ 7 ∷ 8 ∷ 9 ∷ 10 ∷ []) (opened c.in_default.in_default-own.keys2) tt

pub returns : goal.returns
returns c = let a = c.args in vectors a.right a.width a.low a.high _ _ _ _ c.in-Bits.is c.same_bits.ensures
