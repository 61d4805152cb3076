use Rattle.std.proofs.Common.{rules, tests}
use Rattle.ground.specs.Lists.{any}
use Rattle.tables.proofs.kept.is_core.Goals as goal

pub returns-then-same-8 : goal.returns-then-same-8
unfolding any
returns-then-same-8 c = search (rules, tests)

pub returns-else-same-8 : goal.returns-else-same-8
unfolding any
returns-else-same-8 c = search (rules, tests)
