use Rattle.value_text.proofs.Leaves.{range_holds, string-text}
use Rattle.value_text.proofs.leaf.write_string.Goals as goal

pub returns : goal.returns
returns c = string-text _ _ c.put-one.ensures c.write_hex.ensures (range_holds c.args.text.now _ _ _ c.clamp-range.ensures)
