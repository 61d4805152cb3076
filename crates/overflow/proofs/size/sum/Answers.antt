use Rattle.std.proofs.Common.{arith, rules}
use Rattle.overflow.proofs.Sizes.{sum-words, words-past, words-fit}
use Rattle.overflow.proofs.size.sum.Goals as goal

pub returns-then-over : goal.returns-then-over
returns-then-over c = words-past _ _ _ _ (search rules) (sum-words c.args.left.low c.args.left.high c.args.right.low c.args.right.high _ _ _ _ c.carrying_add-low.ensures c.carrying_add-high.ensures) (rw c.if-over.true (omega arith))

pub returns : goal.returns
returns c = words-fit _ _ _ _ (search rules) (sum-words c.args.left.low c.args.left.high c.args.right.low c.args.right.high _ _ _ _ c.carrying_add-low.ensures c.carrying_add-high.ensures) (rw c.if-over.false) (search rules)
