use Rattle.value_text.proofs.Leaves.{entity-text}
use Rattle.value_text.proofs.leaf.write_entity.Goals as goal

pub returns : goal.returns
returns c = entity-text c.args.row _ c.write_head-one.ensures c.write_hex.ensures
