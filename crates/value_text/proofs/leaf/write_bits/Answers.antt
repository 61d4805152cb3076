use Rattle.value_text.proofs.Leaves.{bits-text}
use Rattle.value_text.proofs.leaf.write_bits.Goals as goal

pub returns : goal.returns
returns c = bits-text c.args.width _ _ _ c.write_head-one.ensures c.write_digits.ensures c.hex_width.ensures c.low_bits.ensures
