use mathlib.Core.Bool.{false}
use Rattle.equality.specs.declared.side.Compared.{Compared}
use Rattle.forms.specs.declared.form.Form.{Form}
use Rattle.equality.proofs.Sides.{compared, entity-left, member-left, no-form-left}
use Rattle.equality.proofs.side.compare.Goals as goal

pub returns-in-Truth : goal.returns-in-Truth
returns-in-Truth c = let a = c.args in compared a.names.now a.text.now a.left a.right (Form.Truth _) c.compare_truth.result c.in-Truth.is (c.compare_truth.ensures a.names.now a.text.now)

pub returns-in-Text : goal.returns-in-Text
returns-in-Text c = let a = c.args in compared a.names.now a.text.now a.left a.right (Form.Text _ _) c.compare_text.result c.in-Text.is (c.compare_text.ensures a.names.now)

pub returns-in-Number : goal.returns-in-Number
returns-in-Number c = let a = c.args in compared a.names.now a.text.now a.left a.right (Form.Number _ _) c.compare_number.result c.in-Number.is (c.compare_number.ensures a.names.now a.text.now)

pub returns-in-Bits : goal.returns-in-Bits
returns-in-Bits c = let a = c.args in compared a.names.now a.text.now a.left a.right (Form.Bits _ _ _) c.compare_bits.result c.in-Bits.is (c.compare_bits.ensures a.names.now a.text.now)

pub returns-in-Nothing : goal.returns-in-Nothing
returns-in-Nothing c = let a = c.args in compared a.names.now a.text.now a.left a.right Form.Nothing c.compare_nothing.result c.in-Nothing.is (c.compare_nothing.ensures a.names.now a.text.now)

pub returns-in-Inside : goal.returns-in-Inside
returns-in-Inside c = let a = c.args in compared a.names.now a.text.now a.left a.right (Form.Inside _) c.compare_inside.result c.in-Inside.is (c.compare_inside.ensures a.names.now a.text.now)

pub returns-in-Set : goal.returns-in-Set
returns-in-Set c = let a = c.args in compared a.names.now a.text.now a.left a.right Form.Set c.compare_set.result c.in-Set.is (c.compare_set.ensures a.names.now a.text.now)

pub returns-in-Entity : goal.returns-in-Entity
returns-in-Entity c = let a = c.args in entity-left a.names.now a.text.now a.left a.right _ _ _ _ c.in-Entity.is c.same_entity.ensures

pub returns-in-Member : goal.returns-in-Member
returns-in-Member c = let a = c.args in member-left a.names.now a.text.now a.left a.right _ _ _ _ c.in-Member.is c.same_entity-in-Member.ensures

pub returns-in-Record : goal.returns-in-Record
returns-in-Record c = let a = c.args in compared a.names.now a.text.now a.left a.right (Form.Record _ _ _) c.compare_record.result c.in-Record.is (c.compare_record.ensures a.names.now a.text.now)

pub returns-in-NoForm : goal.returns-in-NoForm
returns-in-NoForm c = let a = c.args in no-form-left a.names.now a.text.now a.left a.right (Compared.Told false) c.in-NoForm.is
