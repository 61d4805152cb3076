use native.Mathlib.Omega.{arith}
use Rattle.tokens.proofs.Insides.{quote-inside, quote_open, quote-shut}
use Rattle.tokens.proofs.lexeme.after_quote.Goals as goal

pub overflow_add-result : goal.overflow_add-result
overflow_add-result c = let a = c.args in record { fits = omega (arith, quote-inside a.s.now a.start _ c.requires c.quote_end-end.ensures) }

pub returns-then-s-end : goal.returns-then-s-end
returns-then-s-end c = let a = c.args in quote_open a.s.now a.start _ c.requires c.quote_end-end.ensures c.if-s-end.true

pub overflow_sub-result-2 : goal.overflow_sub-result-2
overflow_sub-result-2 c = let a = c.args in omega (arith, quote-inside a.s.now a.start _ c.requires c.quote_end-end.ensures)

pub overflow_sub-result-3 : goal.overflow_sub-result-3
overflow_sub-result-3 c = let a = c.args in omega (arith, quote-inside a.s.now a.start _ c.requires c.quote_end-end.ensures)

pub overflow_add-result-2 : goal.overflow_add-result-2
overflow_add-result-2 c = let a = c.args in record { fits = omega (arith, quote-inside a.s.now a.start _ c.requires c.quote_end-end.ensures) }

pub returns : goal.returns
returns c = let a = c.args in quote-shut a.s.now a.start _ c.requires c.quote_end-end.ensures c.if-s-end.false
