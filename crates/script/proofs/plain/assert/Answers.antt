use mathlib.Core.Path.{refl}
use mathlib.Core.Bool.{true}
use Rattle.ground.specs.Lists.{any}
use Rattle.parts.specs.Limit.{too_long}
use Rattle.script.proofs.Lines.{assert-line}
use Rattle.script.proofs.Scripts.{scripted_as, scripted_of}
use Rattle.script.proofs.plain.assert.Goals as goal

pub returns : goal.returns
unfolding too_long any
returns c = scripted_as _ true _ (assert-line _) (scripted_of _ _ true _ _ refl c.write_all.ensures)
