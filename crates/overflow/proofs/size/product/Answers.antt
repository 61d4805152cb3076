use Rattle.std.proofs.Common.{arith, rules}
use Rattle.overflow.proofs.Sizes.{left-none, right-none, product-words, product-past, words-past, words-fit}
use Rattle.overflow.proofs.size.product.Goals as goal
use Rattle.overflow.proofs.size.product.Goals.{else-left-gt0-via-then-left-gt0+else-right-gt0, else-left-gt0-via-else-left-gt0, then-over-gt0-via-then-over-gt0, then-over-gt0-via-else-over-gt0+then-above-gt0}

pub returns-then-right-gt0 : goal.returns-then-right-gt0
returns-then-right-gt0 c = product-past c.args.left.low c.args.left.high c.args.right.low c.args.right.high c.if-left-gt0.true c.if-right-gt0.true

pub returns-then-over-gt0 : goal.returns-then-over-gt0
returns-then-over-gt0 c = words-past _ _ _ _ (search rules) (product-words c.args.left.low c.args.left.high c.args.right.low c.args.right.high _ _ _ _ _ _ (elim c.else-left-gt0.branch [
  | else-left-gt0-via-then-left-gt0+else-right-gt0 w ↦ right-none c.args.left.high c.args.right.high w.if-right-gt0.false
  | else-left-gt0-via-else-left-gt0 w ↦ left-none c.args.left.high c.args.right.high w.if-left-gt0.false
]) c.carrying_mul-low.ensures c.carrying_mul-middle.ensures c.carrying_mul-high.ensures) (elim c.then-over-gt0.branch [
  | then-over-gt0-via-then-over-gt0 w ↦ omega arith
  | then-over-gt0-via-else-over-gt0+then-above-gt0 w ↦ omega arith
])

pub returns : goal.returns
returns c = words-fit _ _ _ _ (search rules) (product-words c.args.left.low c.args.left.high c.args.right.low c.args.right.high _ _ _ _ _ _ (elim c.else-left-gt0.branch [
  | else-left-gt0-via-then-left-gt0+else-right-gt0 w ↦ right-none c.args.left.high c.args.right.high w.if-right-gt0.false
  | else-left-gt0-via-else-left-gt0 w ↦ left-none c.args.left.high c.args.right.high w.if-left-gt0.false
]) c.carrying_mul-low.ensures c.carrying_mul-middle.ensures c.carrying_mul-high.ensures) (omega arith) (search rules)
