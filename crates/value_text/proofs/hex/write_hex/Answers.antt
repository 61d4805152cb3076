use Rattle.value_text.proofs.Hexes.{hexing_start, hex-past, hex-beyond, hex-first, hex-second, hexing_step, hexing_end}
use Rattle.value_text.proofs.hex.write_hex.Goals as goal

pub returns-then-out-at : goal.returns-then-out-at
returns-then-out-at c = hex-beyond _ _ _ _ c.if-out-at.true

pub returns-then-out-at-2 : goal.returns-then-out-at-2
returns-then-out-at-2 c = hex-past _ _ _ _ c.if-out-at-2.true c.if-out-at.false

pub loop-byte-init : goal.loop-byte-init
loop-byte-init c = hexing_start _ _ _ c.if-out-at.false c.if-out-at-2.false

pub bounds-out-to : goal.bounds-out-to
bounds-out-to c = hex-first _ _ _ _ _ _ c.loop-byte.invariant c.loop-byte-test.true

pub bounds-out-to-in-loop-byte : goal.bounds-out-to-in-loop-byte
bounds-out-to-in-loop-byte c = hex-second _ _ _ _ _ _ c.loop-byte.invariant c.loop-byte-test.true _

pub loop-byte-preserved : goal.loop-byte-preserved
loop-byte-preserved c = hexing_step _ _ _ _ _ _ c.loop-byte.invariant c.loop-byte-test.true _ _ c.high_digit.ensures c.low_digit.ensures

pub returns : goal.returns
returns c = hexing_end _ _ _ _ _ _ c.loop-byte.invariant c.loop-byte-test.false
