use Rattle.stazzumpi.proofs.Results.{promises_short, promises_call}
use Rattle.stazzumpi.proofs.trees.stazzumpi_check_arena.Goals as goal

pub returns-then-told-lt2 : goal.returns-then-told-lt2
returns-then-told-lt2 c = promises_short _ _ _ _ _ _ c.if-told-lt2.true c.code.ensures

pub returns : goal.returns
returns c = promises_call _ _ _ _ _ c.if-told-lt2.false c.check_arena-answer.ensures c.tell_checked.ensures
