use Rattle.decimals.proofs.Texts.{natural-short, natural-put}
use Rattle.decimals.proofs.write_natural.Goals as goal

pub returns-then-out-need : goal.returns-then-out-need
returns-then-out-need c = let a = c.args in natural-short a.number c.digit_count-need.result a.out.now c.digit_count-need.ensures c.if-out-need.true

pub returns : goal.returns
returns c = let a = c.args in natural-put a.number c.digit_count-need.result a.out.now c.digit_count-need.ensures _ c.if-out-need.false c.put_digits.ensures
