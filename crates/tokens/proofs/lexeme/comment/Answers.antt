use native.Mathlib.Omega.{arith}
use Rattle.tokens.proofs.Lexemes.{comment-is}
use Rattle.tokens.proofs.lexeme.comment.Goals as goal

pub overflow_sub-result : goal.overflow_sub-result
overflow_sub-result c = omega (arith, c.line_end-end.ensures)

pub returns : goal.returns
returns c = comment-is c.args.s.now c.args.at _ c.line_end-end.ensures
