use mathlib.Core.Path.{◌≡◌}
use native.Mathlib.Omega.{arith}
use Rattle.lexicon.proofs.Classes.{entry_at}
use Rattle.lexicon.proofs.class.class_of.Goals as goal

pub returns : goal.returns
returns c = let e : c.from.result ≡ c.args.byte = omega arith in rw e (entry_at c.args.table.now c.args.byte c.requires (omega arith))
