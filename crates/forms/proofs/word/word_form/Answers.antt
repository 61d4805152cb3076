use mathlib.Core.Path.{refl}
use Rattle.forms.proofs.Leaves.{word_as}
use Rattle.forms.proofs.word.word_form.Goals as goal

pub returns : goal.returns
returns c = let a = c.args in word_as a.members.now a.names.now _ _ c.name_form.result (c.clamp-range.ensures.holds a.text.now refl) c.name_form.ensures
