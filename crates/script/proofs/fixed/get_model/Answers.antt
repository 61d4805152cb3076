use Rattle.ground.specs.Lists.{any}
use Rattle.refusals.specs.declared.Refusal.TheVariants.{OutRoom}
use Rattle.lent.proofs.Lefts.{leaves_as}
use Rattle.parts.specs.Limit.{too_long}
use Rattle.script.specs.Script.{scripted}
use Rattle.script.proofs.Lines.{get_model-line}
use Rattle.script.proofs.fixed.get_model.Goals as goal

pub returns : goal.returns
unfolding scripted too_long any
returns c = leaves_as OutRoom _ get_model-line c.write_all.ensures
