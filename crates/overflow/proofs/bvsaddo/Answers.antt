use Rattle.std.proofs.Common.{◌+◌}
use Rattle.words.specs.Pair.{value}
use Rattle.overflow.proofs.Results.{sum_inside, sum_told}
use Rattle.overflow.proofs.bvsaddo.Goals as goal

pub returns-then-first-second : goal.returns-then-first-second
returns-then-first-second c = let a = c.args in sum_inside a.width (value a.left) (value a.right) c.signed_of-first.result.negative c.signed_of-second.result.negative (value c.signed_of-first.result.size) (value c.signed_of-second.result.size) c.signed_of-first.ensures c.signed_of-second.ensures c.if-first-second.true

pub returns : goal.returns
returns c = let a = c.args in sum_told a.width (value a.left) (value a.right) c.signed_of-first.result.negative c.signed_of-second.result.negative (value c.signed_of-first.result.size) (value c.signed_of-second.result.size) c.signed_of-first.ensures c.signed_of-second.ensures c.if-first-second.false c.leaves.result (c.leaves.ensures (value c.signed_of-first.result.size + value c.signed_of-second.result.size) c.sum.ensures)
