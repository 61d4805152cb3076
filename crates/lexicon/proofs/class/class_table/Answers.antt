use mathlib.Core.Path.{refl}
use Rattle.lexicon.specs.Class.{class_of, tabled, classes}
use Rattle.lexicon.proofs.class.class_table.Goals as goal

pub returns : goal.returns
unfolding classes tabled class_of
returns c = refl
