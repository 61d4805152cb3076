use mathlib.Core.List.{[]}
use Rattle.tables.specs.Layout.{count, sort_at}
use Rattle.tables.specs.Rules.{identity}
use Rattle.tables.specs.Right.{lent_sorts}
use Rattle.tables.proofs.Marks.{Marked}
use Rattle.tables.proofs.alone.are_alone_sorts.Given as goal

abbrev pub invariant-loop-row : goal.invariant-loop-row
invariant-loop-row l = Marked (λ k. identity (sort_at (lent_sorts l.sorts [] l.names) k)) (count l.sorts) l.marks l.row
