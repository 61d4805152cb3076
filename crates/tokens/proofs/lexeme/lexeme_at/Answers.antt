use native.Mathlib.Omega.{arith}
use Rattle.tokens.proofs.Lexemes.{at-blank, at-opening, at-closing, at-comment, at-quote, at-hash, at-digit, at_other}
use Rattle.tokens.proofs.lexeme.lexeme_at.Goals as goal

pub returns-then-class-eq-BLANK : goal.returns-then-class-eq-BLANK
returns-then-class-eq-BLANK c = let a = c.args in at-blank a.s.now a.at _ c.requires.1 c.class_of-class.ensures c.single.ensures c.if-class-eq-BLANK.true

pub returns-then-class-eq-OPENING : goal.returns-then-class-eq-OPENING
returns-then-class-eq-OPENING c = let a = c.args in at-opening a.s.now a.at _ c.requires.1 c.class_of-class.ensures c.if-class-eq-BLANK.false c.single-then-class-eq-OPENING.ensures c.if-class-eq-OPENING.true

pub returns-then-class-eq-CLOSING : goal.returns-then-class-eq-CLOSING
returns-then-class-eq-CLOSING c = let a = c.args in at-closing a.s.now a.at _ c.requires.1 c.class_of-class.ensures c.if-class-eq-BLANK.false c.if-class-eq-OPENING.false c.single-then-class-eq-CLOSING.ensures c.if-class-eq-CLOSING.true

pub returns-then-class-eq-COMMENT : goal.returns-then-class-eq-COMMENT
returns-then-class-eq-COMMENT c = let a = c.args in at-comment a.s.now a.at _ c.requires.1 c.class_of-class.ensures c.if-class-eq-BLANK.false c.if-class-eq-OPENING.false c.if-class-eq-CLOSING.false c.comment.ensures c.if-class-eq-COMMENT.true

pub returns-then-class-eq-QUOTE : goal.returns-then-class-eq-QUOTE
returns-then-class-eq-QUOTE c = let a = c.args in at-quote a.s.now a.at _ c.requires.1 c.class_of-class.ensures c.if-class-eq-BLANK.false c.if-class-eq-OPENING.false c.if-class-eq-CLOSING.false c.if-class-eq-COMMENT.false c.after_quote.ensures c.if-class-eq-QUOTE.true

pub returns-then-class-eq-HASH : goal.returns-then-class-eq-HASH
returns-then-class-eq-HASH c = let a = c.args in at-hash a.s.now a.at _ c.requires.1 c.class_of-class.ensures c.if-class-eq-BLANK.false c.if-class-eq-OPENING.false c.if-class-eq-CLOSING.false c.if-class-eq-COMMENT.false c.if-class-eq-QUOTE.false c.after_hash.ensures c.if-class-eq-HASH.true

pub overflow_sub-run_end : goal.overflow_sub-run_end
overflow_sub-run_end c = omega (arith, c.run_end.ensures)

pub returns-then-class-eq-DIGIT : goal.returns-then-class-eq-DIGIT
returns-then-class-eq-DIGIT c = let a = c.args in at-digit a.s.now a.at _ c.requires.1 c.class_of-class.ensures c.if-class-eq-BLANK.false c.if-class-eq-OPENING.false c.if-class-eq-CLOSING.false c.if-class-eq-COMMENT.false c.if-class-eq-QUOTE.false c.if-class-eq-HASH.false _ c.whole.ensures c.run_end.ensures c.if-class-eq-DIGIT.true

pub overflow_sub-span_end : goal.overflow_sub-span_end
overflow_sub-span_end c = omega (arith, c.span_end.ensures)

pub returns : goal.returns
returns c = let a = c.args in at_other a.s.now a.at _ c.requires.1 c.class_of-class.ensures c.if-class-eq-BLANK.false c.if-class-eq-OPENING.false c.if-class-eq-CLOSING.false c.if-class-eq-COMMENT.false c.if-class-eq-QUOTE.false c.if-class-eq-HASH.false _ c.whole-2.ensures c.span_end.ensures c.if-class-eq-DIGIT.false
