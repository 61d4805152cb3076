use Rattle.stazzumpi.proofs.Results.{promises_short, promises_call}
use Rattle.stazzumpi.proofs.models.stazzumpi_list_model.Goals as goal

pub returns-then-told-lt1 : goal.returns-then-told-lt1
returns-then-told-lt1 c = promises_short _ _ _ _ _ _ c.if-told-lt1.true c.code.ensures

pub returns : goal.returns
returns c = promises_call _ _ _ _ _ c.if-told-lt1.false c.list_model-answer.ensures c.tell_written.ensures
