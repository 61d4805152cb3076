use mathlib.Core.Path.{◌≡◌}
use Prim.Native.Nat.{◌-◌}
use Rattle.arena.specs.Text.{same_text}
use Rattle.tables.specs.Layout.{name_at, count}
use Rattle.tables.specs.Search.{first_row}
use Rattle.tables.proofs.find.find_name.Given as goal

abbrev pub invariant-loop-i : goal.invariant-loop-i
invariant-loop-i l = (l.rows_there ≡ count l.rows) × (first_row (λ k. same_text l.name (name_at l.names l.rows k)) l.from (count l.rows - l.from) ≡ first_row (λ k. same_text l.name (name_at l.names l.rows k)) l.i (count l.rows - l.i))

abbrev pub decreases-loop-i : goal.decreases-loop-i
decreases-loop-i l = l.rows_there - l.i
