use mathlib.Core.Path.{◌≡◌}
use Prim.Native.Nat.{◌-◌}
use Rattle.tables.specs.Layout.{count}
use Rattle.tables.specs.View.{is_named}
use Rattle.tables.specs.Search.{first_row}
use Rattle.tables.proofs.sort.find_named.Given as goal

abbrev pub invariant-loop-i : goal.invariant-loop-i
invariant-loop-i l = (l.rows_there ≡ count l.sorts) × (first_row (is_named l.sorts l.names l.name) l.from (count l.sorts - l.from) ≡ first_row (is_named l.sorts l.names l.name) l.i (count l.sorts - l.i))

abbrev pub decreases-loop-i : goal.decreases-loop-i
decreases-loop-i l = l.rows_there - l.i
