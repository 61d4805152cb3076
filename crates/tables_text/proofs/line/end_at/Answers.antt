use mathlib.Core.Path.{◌≡◌, refl, ◌∙◌}
use native.Mathlib.Omega.{arith}
use Rattle.tables_text.specs.Parse.{apart}
use Rattle.lexicon.proofs.Spans.{span_goes, span_stops, span_ends}
use Rattle.tables_text.proofs.Cuts.{stays, parts}
use Rattle.tables_text.proofs.line.end_at.Goals as goal

pub loop-at-init : goal.loop-at-init
loop-at-init c = (omega arith, refl)

pub returns-then-s-at : goal.returns-then-s-at
returns-then-s-at c = span_stops (apart c.args.byte) _ _ _ c.loop-at.invariant.1 c.loop-at-test.true (parts _ _ c.if-s-at.true)

pub loop-at-preserved : goal.loop-at-preserved
loop-at-preserved c = (omega arith, span_goes (apart c.args.byte) _ _ _ c.loop-at.invariant.1 c.loop-at-test.true (stays _ _ c.if-s-at.false))

pub returns : goal.returns
returns c =
    let e : c.max.result ≡ c.loop-at.at = omega (arith, c.loop-at.invariant.0) in
    e ∙ span_ends (apart c.args.byte) _ _ _ c.loop-at.invariant.1 c.loop-at-test.false
