use Rattle.stazzumpi.proofs.Results.{exports_short, exports_read}
use Rattle.stazzumpi.proofs.trees.stazzumpi_parse_sexpr.Goals as goal

pub returns-then-told-lt3 : goal.returns-then-told-lt3
returns-then-told-lt3 c = exports_short _ _ _ _ _ c.if-told-lt3.true c.code.ensures

pub returns : goal.returns
returns c = exports_read _ _ _ c.if-told-lt3.false c.parse_sexpr-answer.ensures c.tell_reading.ensures
