use mathlib.Core.Path.{refl}
use Rattle.forms.proofs.Leaves.{indexed-number, indexed-refused}
use Rattle.forms.proofs.number.indexed_form.Goals as goal

pub returns-in-Ok : goal.returns-in-Ok
returns-in-Ok c = let a = c.args in indexed-number _ _ a.width (c.clamp-range.ensures.holds a.text.now refl) c.parse_number-parsed.result c.parse_number-parsed.ensures _ c.in-Ok.is

pub returns-in-Err : goal.returns-in-Err
returns-in-Err c = let a = c.args in indexed-refused _ _ a.width (c.clamp-range.ensures.holds a.text.now refl) c.parse_number-parsed.result c.parse_number-parsed.ensures _ c.in-Err.is
