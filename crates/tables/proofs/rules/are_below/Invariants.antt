use mathlib.Core.Path.{◌≡◌}
use lib.Dec.{ltb}
use lib.ListN.{drop}
use Rattle.ground.specs.Lists.{all}
use Rattle.tables.proofs.rules.are_below.Given as goal

abbrev pub invariant-loop-field : goal.invariant-loop-field
invariant-loop-field l = all (λ field. ltb field l.row) l.fields ≡ all (λ field. ltb field l.row) (drop l.field-index l.fields)
