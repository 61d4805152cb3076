use mathlib.Core.Path.{sym, ◌∙◌}
use native.Mathlib.Omega.{arith}
use Rattle.lexicon.proofs.Spans.{span_goes, span_stops, span_last}
use Rattle.lexicon.proofs.span.run_end.Goals as goal

pub returns-then-not-passes : goal.returns-then-not-passes
returns-then-not-passes g c = λ test same.
    span_stops test _ _ _ (c.loop-at.invariant test same) c.loop-at-test.true (sym (same _ _ (omega (arith, c.type_inv.s c.loop-at.at)) c.passes.ensures) ∙ c.if-not-passes.true)

pub loop-at-preserved : goal.loop-at-preserved
loop-at-preserved g c = λ test same.
    span_goes test _ _ _ (c.loop-at.invariant test same) c.loop-at-test.true (sym (same _ _ (omega (arith, c.type_inv.s c.loop-at.at)) c.passes.ensures) ∙ c.if-not-passes.false)

pub returns : goal.returns
returns g c = λ test same. span_last test _ _ _ _ (c.loop-at.invariant test same) c.loop-at-test.false c.loop-at.auto.at-end c.max.ensures
