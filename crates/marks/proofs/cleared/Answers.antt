use Rattle.marks.proofs.Bits.{clear_already, unit-taken}
use Rattle.marks.proofs.cleared.Goals as goal

pub returns-then-word-bit-eq0 : goal.returns-then-word-bit-eq0
returns-then-word-bit-eq0 c = clear_already c.args.word c.args.bit c.if-word-bit-eq0.true

pub returns-else-word-bit-eq0 : goal.returns-else-word-bit-eq0
returns-else-word-bit-eq0 c = unit-taken c.args.word c.args.bit c.requires c.if-word-bit-eq0.false
