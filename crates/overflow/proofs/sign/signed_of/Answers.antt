use Rattle.std.proofs.Common.{sym, ◌∙◌, rules}
use Rattle.words.specs.Pair.{value}
use Rattle.words.proofs.Numbers.{value-fits}
use Rattle.overflow.proofs.Signs.{signed-natural, signed-negative}
use Rattle.overflow.proofs.sign.signed_of.Goals as goal

pub returns-then-reaches : goal.returns-then-reaches
returns-then-reaches c = let a = c.args in signed-negative a.width (value a.operand) (value c.low_bits-low.result) c.sign_bit.result c.low_bits-low.ensures c.sign_bit.ensures (sym c.reaches.ensures ∙ c.if-reaches.true) (value-fits c.low_bits-low.result.low c.low_bits-low.result.high (search rules) (search rules)) c.sign_extend.result (value c.opposite.result) c.sign_extend.ensures c.opposite.ensures

pub returns : goal.returns
returns c = let a = c.args in signed-natural a.width (value a.operand) (value c.low_bits-low.result) c.sign_bit.result c.low_bits-low.ensures c.sign_bit.ensures (sym c.reaches.ensures ∙ c.if-reaches.false)
