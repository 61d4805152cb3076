use Rattle.words.specs.Pair.{value}
use Rattle.overflow.proofs.Sizes.{fit_self}
use Rattle.overflow.proofs.Results.{negation-told}
use Rattle.std.proofs.Common.{rules}
use Rattle.overflow.proofs.bvnego.Goals as goal

pub returns : goal.returns
returns c = let a = c.args in negation-told a.width (value a.operand) c.signed_of-signed.result.negative (value c.signed_of-signed.result.size) c.signed_of-signed.ensures c.leaves.result (c.leaves.ensures (value c.signed_of-signed.result.size) (fit_self c.signed_of-signed.result.size (search rules) (search rules)))
