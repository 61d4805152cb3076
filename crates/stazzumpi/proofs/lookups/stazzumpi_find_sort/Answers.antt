use Rattle.stazzumpi.proofs.Results.{promises_short, promises_call}
use Rattle.stazzumpi.proofs.lookups.stazzumpi_find_sort.Goals as goal

pub returns-then-told-lt2 : goal.returns-then-told-lt2
returns-then-told-lt2 c = promises_short _ _ _ _ _ _ c.if-told-lt2.true c.code.ensures

pub returns : goal.returns
returns c = promises_call _ _ _ _ _ c.if-told-lt2.false c.find_kind-answer.ensures c.tell_found.ensures
