use Rattle.tables_text.proofs.SortWalks.{Sorting}
use Rattle.tables_text.proofs.sorts.sort_rows.Given as goal

abbrev pub invariant-loop-row : goal.invariant-loop-row
invariant-loop-row l = Sorting l.text l.initial.table l.initial.fields l.at l.row l.count l.table l.fields
