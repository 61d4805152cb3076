use Rattle.tables.proofs.Words.{word-past, word-short}
use Rattle.tables.proofs.row.word.Goals as goal

pub returns-then-words-row : goal.returns-then-words-row
returns-then-words-row c = let a = c.args in word-past a.words.now a.row a.k c.if-words-row.true

pub returns-then-words-first : goal.returns-then-words-first
returns-then-words-first c = let a = c.args in word-short a.words.now a.row a.k c.if-words-first.true
