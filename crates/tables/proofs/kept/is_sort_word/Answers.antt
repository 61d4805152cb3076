use Rattle.std.proofs.Common.{rules, tests}
use Rattle.ground.specs.Lists.{any}
use Rattle.tables.proofs.kept.is_sort_word.Goals as goal

pub returns-then-same-5 : goal.returns-then-same-5
unfolding any
returns-then-same-5 c = search (rules, tests)

pub returns-else-same-5 : goal.returns-else-same-5
unfolding any
returns-else-same-5 c = search (rules, tests)
