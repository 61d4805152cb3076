use mathlib.Core.Path.{◌∙◌}
use Rattle.tables_text.proofs.Cuts.{begins-is}
use Rattle.tables_text.proofs.line.starts.Goals as goal

pub returns : goal.returns
returns c = let a = c.args in c.text_is.ensures ∙ begins-is a.key.now a.s.now
