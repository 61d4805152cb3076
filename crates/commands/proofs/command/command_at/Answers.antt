use native.Mathlib.Omega.{arith}
use Rattle.commands.proofs.Commands.{command-atom, command-parts, command-five}
use Rattle.shapes.proofs.Seen.{list-within}
use Rattle.commands.proofs.command.command_at.Goals as goal

pub returns-in_default-clause-command_at : goal.returns-in_default-clause-command_at
returns-in_default-clause-command_at c = command-atom _ _ _ _ c.list_at.ensures c.in_default.is

pub returns-then-count-ne5-clause-command_at : goal.returns-then-count-ne5-clause-command_at
returns-then-count-ne5-clause-command_at c = command-parts _ _ _ _ c.list_at.ensures _ c.in-Some.is c.if-count-ne5.true

pub overflow_add-at : goal.overflow_add-at
overflow_add-at c = record { fits = omega (arith, list-within _ _ _ c.list_at.ensures _ c.in-Some.is) }

pub returns-clause-command_at : goal.returns-clause-command_at
returns-clause-command_at c = command-five _ _ _ _ c.list_at.ensures _ c.in-Some.is c.if-count-ne5.false c.five.result c.five.ensures.five_at
