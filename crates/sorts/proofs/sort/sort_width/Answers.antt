use native.Mathlib.Omega.{arith}
use Rattle.sorts.proofs.Rows.{width-over, width-zero, width-row}
use Rattle.sorts.proofs.sort.sort_width.Goals as goal
use Rattle.sorts.proofs.sort.sort_width.Goals.{then-high-ne0-via-then-high-ne0, then-high-ne0-via-else-high-ne0+then-low-ge-WIDE}

pub returns-then-high-ne0 : goal.returns-then-high-ne0
returns-then-high-ne0 c = elim c.then-high-ne0.branch [ then-high-ne0-via-then-high-ne0 w ↦ width-over _ _ _ (omega arith) | then-high-ne0-via-else-high-ne0+then-low-ge-WIDE w ↦ width-over _ _ _ (omega arith) ]

pub returns-then-low-eq0 : goal.returns-then-low-eq0
returns-then-low-eq0 c = width-zero _ _ _ (omega arith) c.if-low-eq0.true

pub returns : goal.returns
returns c = width-row _ _ _ (omega arith) (omega arith) c.if-low-eq0.false c.row_of.result c.row_of.ensures
