use Rattle.std.proofs.Common.{◌*◌}
use Rattle.words.specs.Pair.{value}
use Rattle.overflow.proofs.Results.{product-told}
use Rattle.overflow.proofs.bvsmulo.Goals as goal

pub returns : goal.returns
returns c = let a = c.args in product-told a.width (value a.left) (value a.right) c.signed_of-first.result.negative c.signed_of-second.result.negative (value c.signed_of-first.result.size) (value c.signed_of-second.result.size) c.signed_of-first.ensures c.signed_of-second.ensures c.leaves.result (c.leaves.ensures (value c.signed_of-first.result.size * value c.signed_of-second.result.size) c.product.ensures)
