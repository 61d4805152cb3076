use borrow.Enum.Refused.{opened}
use mathlib.Core.Path.{refl}
use mathlib.Core.List.{[], ◌∷◌}
use Rattle.forms.specs.declared.form.Form.{Form}
use Rattle.equality.proofs.Sides.{record_differs, rows_differ, fields_differ, fields-left}
use Rattle.equality.proofs.side.compare_record.Goals as goal

pub returns-in_default : goal.returns-in_default
returns-in_default c = let a = c.args in record_differs (Form.Record a.row a.first a.count) a.right refl (0 ∷ 1 ∷ 2 ∷ 3 ∷ 4 ∷ 5 ∷ 6 ∷ 7 ∷ 8 ∷ 10 ∷ []) (opened c.in_default.in_default-own.keys2) tt

pub returns-then-row-other : goal.returns-then-row-other
returns-then-row-other c = let a = c.args in rows_differ a.right a.row a.first a.count _ _ _ c.in-Record.is c.if-row-other.true

pub returns-then-count-many : goal.returns-then-count-many
returns-then-count-many c = let a = c.args in fields_differ a.right a.row a.first a.count _ _ _ c.in-Record.is c.if-count-many.true

pub returns : goal.returns
returns c = let a = c.args in fields-left a.right a.row a.first a.count _ _ _ c.in-Record.is c.if-row-other.false c.if-count-many.false
