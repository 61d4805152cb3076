use Rattle.told.proofs.Codes.{code_fits, code_is}
use Rattle.told.proofs.answer.code.Goals as goal

pub overflow_add-result : goal.overflow_add-result
overflow_add-result c = record { fits = code_fits c.args.why _ _ c.number-number.ensures }

pub returns : goal.returns
returns c = code_is _ _ _ c.number-number.ensures c.detail-detail.ensures
