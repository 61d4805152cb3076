use mathlib.Core.Path.{◌∙◌}
use Rattle.tokens.proofs.Sizes.{sized-asked}
use Rattle.tokens.proofs.atom.string_size.Goals as goal

pub returns : goal.returns
returns c = c.ok_or.ensures.value ∙ sized-asked c.args.inside.now c.measure.ensures
