use Rattle.stazzumpi.proofs.Results.{exports_short, exports_written}
use Rattle.stazzumpi.proofs.lines.stazzumpi_declare_datatype.Goals as goal

pub returns-then-told-lt1 : goal.returns-then-told-lt1
returns-then-told-lt1 c = exports_short _ _ _ _ _ c.if-told-lt1.true c.code.ensures

pub returns : goal.returns
returns c = exports_written _ _ _ c.if-told-lt1.false c.declare_datatype-answer.ensures c.tell_written.ensures
