use mathlib.Core.Path.{refl}
use Rattle.commands.proofs.Keys.{argument-not, argument-asked}
use Rattle.commands.proofs.test.is_argument.Goals as goal

pub returns-in_default : goal.returns-in_default
returns-in_default c = argument-not _ _ _ _ _ _ c.symbol_at.ensures c.in_default.is

pub returns : goal.returns
returns c = argument-asked _ _ _ _ _ _ c.symbol_at.ensures _ _ c.in-Some.is _ (c.clamp-range.ensures.holds _ refl) c.text_is.result c.text_is.ensures
