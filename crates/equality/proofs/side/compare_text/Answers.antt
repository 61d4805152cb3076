use borrow.Enum.Refused.{opened}
use mathlib.Core.Path.{refl}
use mathlib.Core.List.{[], ◌∷◌}
use native.Mathlib.Omega.{arith}
use Rattle.forms.specs.declared.form.Form.{Form}
use Rattle.equality.proofs.Sides.{tags_differ, texts}
use Rattle.equality.proofs.side.compare_text.Goals as goal

pub returns-in_default : goal.returns-in_default
returns-in_default c = let a = c.args in λ names. tags_differ (Form.Text a.offset a.size) a.right 1 (omega arith) refl (0 ∷ 2 ∷ 3 ∷ 4 ∷ 5 ∷ 6 ∷ 7 ∷ 8 ∷ 9 ∷ 10 ∷ []) (opened c.in_default.in_default-own.keys2) tt names a.text.now

pub returns : goal.returns
returns c = let a = c.args in texts a.right a.text.now a.offset a.size _ _ _ c.in-Text.is c.same_at.ensures
