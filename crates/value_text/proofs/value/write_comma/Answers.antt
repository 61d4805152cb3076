use Rattle.value_text.proofs.Fields.{comma-none, comma-some}
use Rattle.value_text.proofs.value.write_comma.Goals as goal

pub returns-then-i-eq0 : goal.returns-then-i-eq0
returns-then-i-eq0 c = comma-none c.args.i _ _ c.if-i-eq0.true

pub returns : goal.returns
returns c = comma-some c.args.i c.if-i-eq0.false c.put.ensures
