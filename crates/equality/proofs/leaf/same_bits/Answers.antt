use Prim.Native.Nat.{◌+◌, ◌*◌, ◌%◌, ◌^◌}
use Rattle.equality.proofs.Leaves.{widths_differ, lows_differ, highs_tell}
use borrow.Author.Rules.{rules}
use Rattle.equality.proofs.leaf.same_bits.Goals as goal

pub returns-then-width-other : goal.returns-then-width-other
returns-then-width-other c = let a = c.args in widths_differ a.width a.other ((a.one.low + a.one.high * 2 ^ 64) % 2 ^ a.width) ((a.two.low + a.two.high * 2 ^ 64) % 2 ^ a.other) c.if-width-other.true

pub returns-then-a-b : goal.returns-then-a-b
returns-then-a-b c = let a = c.args in lows_differ a.width a.other ((a.one.low + a.one.high * 2 ^ 64) % 2 ^ a.width) ((a.two.low + a.two.high * 2 ^ 64) % 2 ^ a.other) c.low_bits-a.result.low c.low_bits-a.result.high c.low_bits-b.result.low c.low_bits-b.result.high c.if-width-other.false c.low_bits-a.ensures c.low_bits-b.ensures (search rules) (search rules) c.if-a-b.true

pub returns : goal.returns
returns c = let a = c.args in highs_tell a.width a.other ((a.one.low + a.one.high * 2 ^ 64) % 2 ^ a.width) ((a.two.low + a.two.high * 2 ^ 64) % 2 ^ a.other) c.low_bits-a.result.low c.low_bits-a.result.high c.low_bits-b.result.low c.low_bits-b.result.high c.if-width-other.false c.low_bits-a.ensures c.low_bits-b.ensures c.if-a-b.false
