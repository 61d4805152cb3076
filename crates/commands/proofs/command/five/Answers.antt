use mathlib.Core.Path.{sym, ◌∙◌}
use native.Mathlib.Omega.{arith}
use Rattle.commands.proofs.Commands.{five-none, five-unnamed, five-atom, five-other, five-arguments, last-fifth}
use Rattle.shapes.proofs.Seen.{list-within}
use Rattle.commands.proofs.command.five.Goals as goal

pub returns-in_default-clause-five_at : goal.returns-in_default-clause-five_at
returns-in_default-clause-five_at c = five-none _ _ _ _ c.symbol_at.ensures c.in_default.is

pub returns-in_default-symbol_at-clause-five_at : goal.returns-in_default-symbol_at-clause-five_at
returns-in_default-symbol_at-clause-five_at c = five-unnamed _ _ _ _ c.symbol_at.ensures _ _ c.in-Some.is _ c.after-second.ensures _ c.symbol_at-2.ensures c.in_default-symbol_at.is

pub returns-in_default-list_at-clause-five_at : goal.returns-in_default-list_at-clause-five_at
returns-in_default-list_at-clause-five_at c = five-atom _ _ _ _ c.symbol_at.ensures _ _ c.in-Some.is _ c.after-second.ensures _ c.symbol_at-2.ensures _ _ c.in-Some-symbol_at.is _ c.after-third.ensures _ c.list_at.ensures c.in_default-list_at.is

pub overflow_add-third : goal.overflow_add-third
overflow_add-third c = record { fits = omega (arith, list-within _ c.after-third.result _ c.list_at.ensures _ c.in-Some-list_at.is) }

pub returns-then-text_is : goal.returns-then-text_is
returns-then-text_is c = record { five_at = five-arguments _ _ _ _ c.symbol_at.ensures _ _ c.in-Some.is _ c.after-second.ensures _ c.symbol_at-2.ensures _ _ c.in-Some-symbol_at.is _ c.after-third.ensures _ c.list_at.ensures _ c.in-Some-list_at.is (sym c.text_is.ensures ∙ c.if-text_is.true) _ c.after-sort.ensures _ c.after-body.ensures c.arguments.result c.arguments.ensures.arguments_at; last_at = last-fifth _ _ c.after-second.ensures c.after-third.ensures c.after-sort.ensures c.after-body.ensures c.arguments.result c.arguments.ensures.last_at }

pub returns-clause-five_at : goal.returns-clause-five_at
returns-clause-five_at c = five-other _ _ _ _ c.symbol_at.ensures _ _ c.in-Some.is _ c.after-second.ensures _ c.symbol_at-2.ensures _ _ c.in-Some-symbol_at.is _ c.after-third.ensures _ c.list_at.ensures _ c.in-Some-list_at.is (sym c.text_is.ensures ∙ c.if-text_is.false)
