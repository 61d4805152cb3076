use Rattle.value_text.proofs.Digits.{shorter, shorter-fits}
use borrow.Author.Rules.{rules}
use Rattle.value_text.proofs.hex.shortened.Goals as goal

pub overflow_add-result : goal.overflow_add-result
overflow_add-result c = record { fits = shorter-fits c.args.number.low c.args.number.high (search rules) }

pub returns : goal.returns
returns c = shorter c.args.number.low c.args.number.high
