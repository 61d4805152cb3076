use Rattle.words.specs.Pair.{value}
use Rattle.value_text.proofs.Hexes.{digits-past, digits-beyond, digits-put}
use Rattle.value_text.proofs.hex.write_digits.Goals as goal

pub returns-then-out-at : goal.returns-then-out-at
returns-then-out-at c = digits-beyond c.args.count (value c.args.number) _ _ c.if-out-at.true

pub returns-then-room-count : goal.returns-then-room-count
returns-then-room-count c = let a = c.args in digits-past a.count (value a.number) _ _ c.if-room-count.true c.if-out-at.false

pub returns : goal.returns
returns c = let a = c.args in digits-put a.count (value a.number) _ _ _ c.put_digits.ensures
