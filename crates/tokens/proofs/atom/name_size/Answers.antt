use Rattle.tokens.proofs.Sizes.{named, unnamed}
use Rattle.tokens.proofs.atom.name_size.Goals as goal

pub returns-then-is_utf8 : goal.returns-then-is_utf8
returns-then-is_utf8 c = named c.args.name.now c.is_utf8.ensures c.if-is_utf8.true

pub returns : goal.returns
returns c = unnamed c.args.name.now c.is_utf8.ensures c.if-is_utf8.false
