use mathlib.Core.Path.{sym, ◌∙◌}
use native.Mathlib.Omega.{arith}
use mathlib.Core.Path.{refl}
use Rattle.commands.proofs.Keys.{key-atom, key-parts, key_headless, key-other, key_right, key_left, key-neither}
use Rattle.shapes.proofs.Seen.{list-within}
use Rattle.commands.proofs.test.key_at.Goals as goal

pub returns-in_err-count : goal.returns-in_err-count
returns-in_err-count c = rw c.from_residual.ensures (key-atom _ _ _ _ _ _ c.list_at.ensures c.in_err-count.was)

pub returns-then-count-ne3 : goal.returns-then-count-ne3
returns-then-count-ne3 c = key-parts _ _ _ _ _ _ c.list_at.ensures _ c.in_ok-count.was c.if-count-ne3.true

pub overflow_add-head : goal.overflow_add-head
overflow_add-head c = record { fits = omega (arith, list-within _ _ _ c.list_at.ensures _ c.in_ok-count.was) }

pub returns-in_err-word : goal.returns-in_err-word
returns-in_err-word c = rw c.from_residual-in_err-word.ensures (key_headless _ _ _ _ _ _ c.list_at.ensures _ c.in_ok-count.was c.if-count-ne3.false _ refl _ c.symbol_at.ensures c.in_err-word.was)

pub returns-then-is_argument : goal.returns-then-is_argument
returns-then-is_argument c = key_right _ _ _ _ _ _ c.list_at.ensures _ c.in_ok-count.was c.if-count-ne3.false _ refl _ c.symbol_at.ensures _ _ c.in_ok-word.was (sym c.text_is.ensures ∙ c.if-text_is.true) _ c.after-left.ensures _ c.after-right.ensures c.is_argument.result c.is_argument.ensures c.if-is_argument.true

pub returns-then-is_argument-2 : goal.returns-then-is_argument-2
returns-then-is_argument-2 c = key_left _ _ _ _ _ _ c.list_at.ensures _ c.in_ok-count.was c.if-count-ne3.false _ refl _ c.symbol_at.ensures _ _ c.in_ok-word.was (sym c.text_is.ensures ∙ c.if-text_is.true) _ c.after-left.ensures _ c.after-right.ensures c.is_argument.result c.is_argument.ensures c.if-is_argument.false c.is_argument-then-text_is.result c.is_argument-then-text_is.ensures c.if-is_argument-2.true

pub returns-else-is_argument-2 : goal.returns-else-is_argument-2
returns-else-is_argument-2 c = key-neither _ _ _ _ _ _ c.list_at.ensures _ c.in_ok-count.was c.if-count-ne3.false _ refl _ c.symbol_at.ensures _ _ c.in_ok-word.was (sym c.text_is.ensures ∙ c.if-text_is.true) _ c.after-left.ensures _ c.after-right.ensures c.is_argument.result c.is_argument.ensures c.if-is_argument.false c.is_argument-then-text_is.result c.is_argument-then-text_is.ensures c.if-is_argument-2.false

pub returns-else-text_is : goal.returns-else-text_is
returns-else-text_is c = key-other _ _ _ _ _ _ c.list_at.ensures _ c.in_ok-count.was c.if-count-ne3.false _ refl _ c.symbol_at.ensures _ _ c.in_ok-word.was (sym c.text_is.ensures ∙ c.if-text_is.false)
