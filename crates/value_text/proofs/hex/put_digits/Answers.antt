use Rattle.decimals.proofs.Puts.{putting_start, put-within}
use Rattle.values.specs.Text.{hex}
use Rattle.value_text.proofs.Digits.{hex-step, hex-end}
use Rattle.value_text.proofs.hex.put_digits.Goals as goal

pub loop-at-init : goal.loop-at-init
loop-at-init c = putting_start hex _ _ _ _ c.requires.0

pub bounds-out-at : goal.bounds-out-at
bounds-out-at c = put-within hex _ _ _ _ _ _ _ c.loop-at.invariant c.requires.1 c.loop-at-test.true

pub loop-at-preserved : goal.loop-at-preserved
loop-at-preserved c = hex-step _ _ _ _ _ _ _ c.loop-at.invariant c.requires.1 c.loop-at-test.true _ _ c.last_digit.ensures c.shortened-rest.ensures

pub returns : goal.returns
returns c = hex-end _ _ _ _ _ _ _ c.loop-at.invariant c.loop-at-test.false
