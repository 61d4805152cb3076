use mathlib.Core.Path.{sym, ◌∙◌}
use native.Mathlib.Omega.{arith}
use Rattle.words.specs.Pair.{value}
use Rattle.literals.proofs.Numbers.{width-over, width-zero, width-short, width-whole, width_fits}
use Rattle.literals.proofs.number.at_width.Goals.{then-low-lt-WHOLE+else-reaches, else-low-lt-WHOLE}
use Rattle.literals.proofs.number.at_width.Goals as goal

pub returns-then-high-ne0 : goal.returns-then-high-ne0
returns-then-high-ne0 c = width-over c.args.sorts.now (value c.args.number) c.args.low c.args.high (omega arith)

pub returns-then-low-ge-WIDE : goal.returns-then-low-ge-WIDE
returns-then-low-ge-WIDE c = let a = c.args in width-over a.sorts.now (value a.number) a.low a.high (omega arith)

pub returns-then-low-eq0 : goal.returns-then-low-eq0
returns-then-low-eq0 c = let a = c.args in width-zero a.sorts.now (value a.number) a.low a.high (omega arith) c.if-low-eq0.true

pub returns-then-reaches : goal.returns-then-reaches
returns-then-reaches c = let a = c.args in width-short a.sorts.now (value a.number) a.low a.high (omega arith) (omega arith) c.if-low-eq0.false c.if-low-lt-WHOLE.true (sym c.reaches.ensures ∙ c.if-reaches.true)

pub returns : goal.returns
returns c = let a = c.args in elim c.if-low-lt-WHOLE.branch [ then-low-lt-WHOLE+else-reaches w ↦ width_fits a.sorts.now (value a.number) a.low a.high (omega arith) (omega arith) c.if-low-eq0.false w.if-low-lt-WHOLE.true (sym w.reaches.ensures ∙ w.if-reaches.false) c.bits_of.result c.bits_of.ensures | else-low-lt-WHOLE w ↦ width-whole a.sorts.now (value a.number) a.low a.high (omega arith) (omega arith) c.if-low-eq0.false w.if-low-lt-WHOLE.false c.bits_of.result c.bits_of.ensures ]
