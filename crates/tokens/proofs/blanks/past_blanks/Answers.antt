use mathlib.Core.Path.{refl, sym, ◌∙◌}
use native.Mathlib.Omega.{arith}
use Rattle.lexicon.specs.Class.{white_space}
use Rattle.lexicon.proofs.Spans.{span_goes, span_stops, span_ends}
use Rattle.tokens.proofs.Pasts.{is_white, no-white}
use Rattle.tokens.proofs.blanks.past_blanks.Goals as goal

pub loop-at-init : goal.loop-at-init
loop-at-init c = refl

pub returns-then-class-ne-BLANK : goal.returns-then-class-ne-BLANK
returns-then-class-ne-BLANK c = span_stops white_space _ _ _ c.loop-at.invariant c.loop-at-test.true (no-white _ (λ e. c.if-class-ne-BLANK.true (c.class_of-class.ensures ∙ e)))

pub loop-at-preserved : goal.loop-at-preserved
loop-at-preserved c = span_goes white_space _ _ _ c.loop-at.invariant c.loop-at-test.true (is_white _ (sym c.class_of-class.ensures ∙ omega (arith, c.if-class-ne-BLANK.false)))

pub returns : goal.returns
returns c = span_ends white_space _ _ _ c.loop-at.invariant c.loop-at-test.false
