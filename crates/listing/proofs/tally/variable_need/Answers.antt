use Rattle.listing.proofs.Sizes.{variable-sum}
use Rattle.listing.proofs.tally.variable_need.Goals as goal

pub returns : goal.returns
returns c = let a = c.args in variable-sum a.names.now a.variables.now a.row a.long _ c.name_size-name.ensures _ _ _ _ _ c.word.ensures c.digit_count-sort.ensures c.plus.ensures c.plus-2.ensures c.plus-3.ensures
