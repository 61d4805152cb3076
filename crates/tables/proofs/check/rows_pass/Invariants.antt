use Rattle.std.proofs.Common.{◌≡◌, ℕ, ◌-◌, ◌<◌, Bool}
use Rattle.tables.specs.Layout.{count}
use Rattle.tables.specs.Search.{every_row}
use Rattle.tables.specs.Right.{table_passes}
use Rattle.tables.proofs.check.rows_pass.Given as goal

abbrev pub invariant-loop-i : goal.invariant-loop-i
invariant-loop-i g l =
    (l.i-end ≡ count l.rows)
    × ((right : ℕ → Bool) → ((i : ℕ) (r : Bool) → i < count l.rows → goal.F-post g l.test i r → r ≡ right i) → table_passes l.rows right ≡ every_row right l.i (count l.rows - l.i))
