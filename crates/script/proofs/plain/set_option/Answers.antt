use mathlib.Core.Path.{refl}
use mathlib.Core.Bool.{true}
use Rattle.ground.specs.Lists.{any}
use Rattle.parts.specs.Limit.{too_long}
use Rattle.script.proofs.Lines.{set_option_line}
use Rattle.script.proofs.Scripts.{scripted_as, scripted_of}
use Rattle.script.proofs.plain.set_option.Goals as goal

pub returns : goal.returns
unfolding too_long any
returns c = scripted_as _ true _ (set_option_line _ _) (scripted_of _ _ true _ _ refl c.write_all.ensures)
