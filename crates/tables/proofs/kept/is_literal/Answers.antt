use Rattle.std.proofs.Common.{rules, tests}
use Rattle.ground.specs.Lists.{any}
use Rattle.tables.proofs.kept.is_literal.Goals as goal

pub returns-then-same : goal.returns-then-same
unfolding any
returns-then-same c = search (rules, tests)

pub returns-then-same-10 : goal.returns-then-same-10
unfolding any
returns-then-same-10 c = search (rules, tests)

pub returns-else-same-10 : goal.returns-else-same-10
unfolding any
returns-else-same-10 c = search (rules, tests)
