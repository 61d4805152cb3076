use Rattle.commands.proofs.Commands.{arguments-other, arguments-pair}
use Rattle.commands.proofs.command.arguments.Goals as goal

pub returns-in_default-clause-arguments_at : goal.returns-in_default-clause-arguments_at
returns-in_default-clause-arguments_at c = arguments-other _ _ _ _ _ _ _ c.if-count-ne1.false _ c.pair_at.ensures.pair_at c.in_default.is

pub returns-clause-arguments_at : goal.returns-clause-arguments_at
returns-clause-arguments_at c = arguments-pair _ _ _ _ _ _ _ c.if-count-ne1.false _ c.pair_at.ensures.pair_at _ _ _ c.in-Some.is
