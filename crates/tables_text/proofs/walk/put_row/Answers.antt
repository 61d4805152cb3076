use native.Mathlib.Omega.{arith}
use native.Mathlib.Numerals.{add-one, add-two, add-three, add-four}
use lib.ListN.{length-set}
use Rattle.tables_text.proofs.walk.put_row.Goals as goal

pub bounds-table-first-2 : goal.bounds-table-first-2
bounds-table-first-2 c = simp length-set (omega arith)

pub bounds-table-first-3 : goal.bounds-table-first-3
bounds-table-first-3 c = simp length-set (omega arith)

pub bounds-table-first-4 : goal.bounds-table-first-4
bounds-table-first-4 c = simp length-set (omega arith)

pub bounds-table-first-5 : goal.bounds-table-first-5
bounds-table-first-5 c = simp length-set (omega arith)

pub returns : goal.returns
returns c = simp (add-one, add-two, add-three, add-four)
