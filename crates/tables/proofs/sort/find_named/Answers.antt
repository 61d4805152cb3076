use mathlib.Core.Path.{refl, sym, ◌∙◌}
use native.Mathlib.Omega.{arith}
use Rattle.tables.proofs.Searches.{first-here, first-later, first-none}
use Rattle.tables.proofs.Glances.{other-sort}
use Rattle.tables.proofs.sort.find_named.Goals as goal

pub loop-i-init : goal.loop-i-init
loop-i-init c = (c.count-rows_there.ensures, refl)

pub loop-i-preserved-then-not-may_be_named : goal.loop-i-preserved-then-not-may_be_named
loop-i-preserved-then-not-may_be_named c = let a = c.args in let h = c.loop-i.invariant in (h.0, h.1 ∙ first-later _ _ _ (omega (arith, h.0)) (other-sort a.sorts.now a.names.now a.name.now _ (c.may_be_named.ensures (c.if-not-may_be_named.true))))

pub returns-then-is_named_sort : goal.returns-then-is_named_sort
returns-then-is_named_sort c = let h = c.loop-i.invariant in sym (h.1 ∙ first-here _ _ _ (omega (arith, h.0)) (sym c.is_named_sort.ensures ∙ c.if-is_named_sort.true))

pub loop-i-preserved : goal.loop-i-preserved
loop-i-preserved c = let h = c.loop-i.invariant in (h.0, h.1 ∙ first-later _ _ _ (omega (arith, h.0)) (sym c.is_named_sort.ensures ∙ c.if-is_named_sort.false))

pub returns : goal.returns
returns c = let h = c.loop-i.invariant in sym (h.1 ∙ first-none _ _ _ (omega (arith, h.0)))
