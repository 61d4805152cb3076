use mathlib.Core.Path.{refl, sym, ◌∙◌}
use native.Mathlib.Omega.{arith}
use Rattle.tables.proofs.Searches.{first-here, first-later, first-none}
use Rattle.tables.proofs.sort.find_kind.Goals as goal

pub loop-i-init : goal.loop-i-init
loop-i-init c = (c.count-rows_there.ensures, refl)

pub returns-then-is_kind : goal.returns-then-is_kind
returns-then-is_kind c = let h = c.loop-i.invariant in sym (h.1 ∙ first-here _ _ _ (omega (arith, h.0)) (sym c.is_kind.ensures ∙ c.if-is_kind.true))

pub loop-i-preserved : goal.loop-i-preserved
loop-i-preserved c = let h = c.loop-i.invariant in (h.0, h.1 ∙ first-later _ _ _ (omega (arith, h.0)) (sym c.is_kind.ensures ∙ c.if-is_kind.false))

pub returns : goal.returns
returns c = let h = c.loop-i.invariant in sym (h.1 ∙ first-none _ _ _ (omega (arith, h.0)))
