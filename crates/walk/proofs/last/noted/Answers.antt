use Rattle.walk.proofs.Lasts.{word-past, word-short}
use Rattle.walk.proofs.last.noted.Goals as goal

pub returns-then-last-slot : goal.returns-then-last-slot
returns-then-last-slot c = word-past c.args.last.now c.args.slot c.args.word c.if-last-slot.true

pub returns-then-last-first : goal.returns-then-last-first
returns-then-last-first c = word-short c.args.last.now c.args.slot c.args.word c.if-last-first.true
