use Rattle.words.proofs.Extends.{word-clear, unit-set}
use Rattle.words.proofs.pair.fill_from.Goals as goal

pub returns-then-word-bit-eq0 : goal.returns-then-word-bit-eq0
returns-then-word-bit-eq0 c = word-clear c.args.bit c.args.word c.if-word-bit-eq0.true

pub returns : goal.returns
returns c = unit-set c.args.bit c.args.word c.requires c.if-word-bit-eq0.false
