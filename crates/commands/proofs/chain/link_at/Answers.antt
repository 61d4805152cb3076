use mathlib.Core.Path.{sym, ◌∙◌}
use native.Mathlib.Omega.{arith}
use mathlib.Core.Path.{refl}
use Rattle.commands.proofs.Links.{link-atom, link-parts, link_headless, link-other, link-arm}
use Rattle.shapes.proofs.Seen.{list-within}
use Rattle.commands.proofs.chain.link_at.Goals as goal

pub returns-in_err-count : goal.returns-in_err-count
returns-in_err-count c = rw c.from_residual.ensures (link-atom _ _ _ _ c.list_at.ensures c.in_err-count.was)

pub returns-then-count-ne4 : goal.returns-then-count-ne4
returns-then-count-ne4 c = link-parts _ _ _ _ c.list_at.ensures _ c.in_ok-count.was c.if-count-ne4.true

pub overflow_add-head : goal.overflow_add-head
overflow_add-head c = record { fits = omega (arith, list-within _ _ _ c.list_at.ensures _ c.in_ok-count.was) }

pub returns-in_err-word : goal.returns-in_err-word
returns-in_err-word c = rw c.from_residual-in_err-word.ensures (link_headless _ _ _ _ c.list_at.ensures _ c.in_ok-count.was c.if-count-ne4.false _ refl _ c.symbol_at.ensures c.in_err-word.was)

pub returns-then-text_is : goal.returns-then-text_is
returns-then-text_is c = link-arm _ _ _ _ c.list_at.ensures _ c.in_ok-count.was c.if-count-ne4.false _ refl _ c.symbol_at.ensures _ _ c.in_ok-word.was (sym c.text_is.ensures ∙ c.if-text_is.true) _ c.after-test.ensures _ c.after-value.ensures _ c.after-rest.ensures

pub returns : goal.returns
returns c = link-other _ _ _ _ c.list_at.ensures _ c.in_ok-count.was c.if-count-ne4.false _ refl _ c.symbol_at.ensures _ _ c.in_ok-word.was (sym c.text_is.ensures ∙ c.if-text_is.false)
