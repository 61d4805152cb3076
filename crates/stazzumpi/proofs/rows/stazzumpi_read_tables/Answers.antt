use Rattle.stazzumpi.proofs.Results.{promises_short, promises_call}
use Rattle.stazzumpi.proofs.rows.stazzumpi_read_tables.Goals as goal

pub returns-then-told-lt5 : goal.returns-then-told-lt5
returns-then-told-lt5 c = promises_short _ _ _ _ _ _ c.if-told-lt5.true c.code.ensures

pub returns : goal.returns
returns c = promises_call _ _ _ _ _ c.if-told-lt5.false c.read_tables-answer.ensures c.tell_tables.ensures
