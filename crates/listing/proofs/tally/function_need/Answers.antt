use Rattle.listing.proofs.Sizes.{function-sum}
use Rattle.listing.proofs.tally.function_need.Goals as goal

pub returns : goal.returns
returns c = let a = c.args in function-sum a.names.now a.functions.now a.row a.long _ c.name_size-name.ensures _ _ _ _ _ _ _ _ c.word.ensures c.digit_count-argument.ensures c.word-2.ensures c.digit_count-result.ensures c.plus.ensures c.plus-2.ensures c.plus-3.ensures c.plus-4.ensures
