use Rattle.value_text.proofs.Leaves.{range_holds, indexed-number, indexed-refused}
use Rattle.value_text.proofs.leaf.write_indexed.Goals as goal

pub returns-in-Ok : goal.returns-in-Ok
returns-in-Ok c = let a = c.args in indexed-number _ _ _ _ a.width _ (range_holds a.text.now _ _ _ c.clamp-range.ensures) c.parse_number-parsed.result c.parse_number-parsed.ensures _ c.in-Ok.is c.write_bits.ensures

pub returns-in-Err : goal.returns-in-Err
returns-in-Err c = let a = c.args in indexed-refused _ _ _ _ a.width _ (range_holds a.text.now _ _ _ c.clamp-range.ensures) c.parse_number-parsed.result c.parse_number-parsed.ensures _ c.in-Err.is
