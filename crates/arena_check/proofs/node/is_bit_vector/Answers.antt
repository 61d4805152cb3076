use mathlib.Core.Path.{sym, ◌∙◌}
use Rattle.arena_check.proofs.Vectors.{vector-positive, vector-deep}
use borrow.Author.Rules.{rules}
use Rattle.arena_check.proofs.node.is_bit_vector.Goals as goal
use Rattle.arena_check.proofs.node.is_bit_vector.Goals.{then-reaches, else-reaches}

pub returns : goal.returns
returns c =
    let a = c.args in
    elim c.if-reaches.branch [
      | then-reaches w ↦
          rw w.result-is
          (vector-deep a.width a.number.low a.number.high c.if-width-eq0.false c.if-width-gt-MOST_WIDTH.false (search rules) (search rules) (sym c.reaches.ensures ∙ w.if-reaches.true) _ w.reaches-then-reaches.ensures)
      | else-reaches w ↦
          rw (w.result-is, w.if-reaches.false)
          (vector-positive a.width a.number.low a.number.high c.if-width-eq0.false c.if-width-gt-MOST_WIDTH.false (search rules) (search rules) (sym c.reaches.ensures ∙ w.if-reaches.false))
    ]
