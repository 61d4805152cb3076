use Rattle.words.proofs.LowBits.{bits-all, bits-high, bits-low}
use Rattle.std.proofs.Common.{rules}
use Rattle.words.proofs.low.low_bits.Goals as goal

pub returns-then-width-ge128 : goal.returns-then-width-ge128
returns-then-width-ge128 c = bits-all c.args.number.low c.args.number.high c.args.width (search rules) (search rules) c.if-width-ge128.true

pub returns-then-width-ge64 : goal.returns-then-width-ge64
returns-then-width-ge64 c = let a = c.args in bits-high a.number.low a.number.high a.width (search rules) c.if-width-ge64.true c.if-width-ge128.false

pub returns : goal.returns
returns c = let a = c.args in bits-low a.number.low a.number.high a.width (search rules) c.if-width-ge64.false
