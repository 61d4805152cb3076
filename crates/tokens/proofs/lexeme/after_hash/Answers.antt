use Rattle.tokens.proofs.Lexemes.{hash-end, hash-binary, hash-hex, hash-other}
use Rattle.tokens.proofs.lexeme.after_hash.Goals as goal

pub returns-then-s-start : goal.returns-then-s-start
returns-then-s-start c = let a = c.args in hash-end a.s.now a.start c.single.ensures c.if-s-start.true

pub returns-then-letter-eq98 : goal.returns-then-letter-eq98
returns-then-letter-eq98 c = let a = c.args in hash-binary a.s.now a.start c.if-s-start.false c.bit_vector.ensures c.if-letter-eq98.true

pub returns-then-letter-eq120 : goal.returns-then-letter-eq120
returns-then-letter-eq120 c = let a = c.args in hash-hex a.s.now a.start c.if-s-start.false c.bit_vector-then-letter-eq120.ensures c.if-letter-eq98.false c.if-letter-eq120.true

pub returns : goal.returns
returns c = let a = c.args in hash-other a.s.now a.start c.if-s-start.false c.single-2.ensures c.if-letter-eq98.false c.if-letter-eq120.false
