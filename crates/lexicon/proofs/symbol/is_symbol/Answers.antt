use mathlib.Core.Path.{sym, ◌∙◌}
use native.Mathlib.Omega.{arith}
use borrow.Author.Tests.{eqb-true, eqb-false}
use Rattle.lexicon.proofs.Symbols.{not-empty, not_started, not-whole, one-run}
use Rattle.lexicon.proofs.symbol.is_symbol.Goals as goal
use Rattle.lexicon.proofs.symbol.is_symbol.Goals.{then-class_of-ne-OTHER-via-then-class_of-ne-OTHER, then-class_of-ne-OTHER-via-else-class_of-ne-OTHER+then-span_end-name}

pub returns-then-is_empty : goal.returns-then-is_empty
returns-then-is_empty c = not-empty _ (eqb-true _ _ (sym c.is_empty.ensures ∙ c.if-is_empty.true))

pub returns-then-class_of-ne-OTHER : goal.returns-then-class_of-ne-OTHER
returns-then-class_of-ne-OTHER c =
    let some = eqb-false _ _ (sym c.is_empty.ensures ∙ c.if-is_empty.false) in
    elim c.then-class_of-ne-OTHER.branch [
      | then-class_of-ne-OTHER-via-then-class_of-ne-OTHER w ↦ not_started _ _ some c.class_of.ensures w.if-class_of-ne-OTHER.true
      | then-class_of-ne-OTHER-via-else-class_of-ne-OTHER+then-span_end-name w ↦ not-whole _ _ some w.span_end.ensures w.if-span_end-name.true
    ]

pub returns : goal.returns
returns c =
    let some = eqb-false _ _ (sym c.is_empty.ensures ∙ c.if-is_empty.false) in
    one-run _ _ _ _ some c.class_of.ensures (omega arith) c.span_end.ensures (omega arith) c.is_utf8.ensures
