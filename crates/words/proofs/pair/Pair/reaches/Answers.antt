use Rattle.words.proofs.Powers.{reaches-none, reaches-high, reaches-low}
use Rattle.std.proofs.Common.{rules}
use Rattle.words.proofs.pair.Pair.reaches.Goals as goal

pub returns-then-width-ge128 : goal.returns-then-width-ge128
returns-then-width-ge128 c = let a = c.args in reaches-none a.self.low a.self.high a.width (search rules) (search rules) c.if-width-ge128.true

pub returns-then-width-ge64 : goal.returns-then-width-ge64
returns-then-width-ge64 c = let a = c.args in reaches-high a.self.low a.self.high a.width (search rules) c.if-width-ge64.true

pub returns-else-self-gt0 : goal.returns-else-self-gt0
returns-else-self-gt0 c = let a = c.args in reaches-low a.self.low a.self.high a.width (search rules) c.if-self-gt0.false
