use Rattle.tables.specs.Layout.{count, name_at}
use Rattle.tables.proofs.Marks.{Marked}
use Rattle.tables.proofs.alone.are_alone.Given as goal

abbrev pub invariant-loop-row : goal.invariant-loop-row
invariant-loop-row l = Marked (name_at l.names l.rows) (count l.rows) l.marks l.row
