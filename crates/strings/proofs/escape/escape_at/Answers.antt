use mathlib.Core.Path.{◌∙◌, sym}
use native.Mathlib.Omega.{arith}
use Rattle.strings.proofs.Fours.{fours_short}
use Rattle.strings.proofs.Escapes.{escape_end, escape-other, escape-u-end, escape-brace, escape-four}
use Rattle.strings.proofs.escape.escape_at.Goals as goal
use Rattle.strings.proofs.escape.escape_at.Goals.{then-s-start-via-then-s-start, then-s-start-via-else-s-start+then-s-start-ne117, else-next-s-via-then-next-s+else-s-next-eq123, else-next-s-via-else-next-s}

pub returns-then-s-start : goal.returns-then-s-start
returns-then-s-start c =
    let a = c.args in
    elim c.then-s-start.branch [
      | then-s-start-via-then-s-start w ↦ escape_end a.s.now a.start w.if-s-start.true
      | then-s-start-via-else-s-start+then-s-start-ne117 w ↦ escape-other a.s.now a.start w.if-s-start.false w.if-s-start-ne117.true
    ]

pub returns-then-s-next-eq123 : goal.returns-then-s-next-eq123
returns-then-s-next-eq123 c = let a = c.args in c.braced_escape.ensures ∙ escape-brace a.s.now a.start c.if-s-start.false c.if-s-start-ne117.false c.if-next-s.true c.if-s-next-eq123.true

pub returns : goal.returns
returns c =
    let a = c.args in
    c.four_digits.ensures ∙
    elim c.else-next-s.branch [
      | else-next-s-via-then-next-s+else-s-next-eq123 w ↦ escape-four a.s.now a.start c.if-s-start.false c.if-s-start-ne117.false w.if-next-s.true w.if-s-next-eq123.false
      | else-next-s-via-else-next-s w ↦ sym (fours_short a.s.now _ (omega arith)) ∙ escape-u-end a.s.now a.start c.if-s-start.false c.if-s-start-ne117.false w.if-next-s.false
    ]
