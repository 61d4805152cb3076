use Rattle.definitions.proofs.Variables.{value-is}
use Rattle.definitions.proofs.value.check_value.Goals as goal

pub returns : goal.returns
returns c = value-is _ _ _ _ _ _ _ _ c.decode_literal-literal.result c.decode_literal-literal.ensures _ c.value_of.ensures
