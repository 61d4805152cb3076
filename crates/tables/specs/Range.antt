-- Document 01, "Sorts and literals", as words: where so many entries of a list from one on lie, as far as it goes.
use Rattle.std.specs.Prelude.{◌≡◌, List, ℕ, ◌+◌, ◌-◌, ◌≤◌, min, length, take, drop}
use Rattle.tables.specs.declared.row.Range.{Range}
use Rattle.tables.specs.Layout.{part}

pub record Clamps (first size most : ℕ) (r : Range) : Type 0 where
  pub begins : r.start ≡ min first most
  pub ends : r.end ≡ min (first + size) most
  pub ordered : r.start ≤ r.end
  pub within : r.end ≤ most
  pub holds : (xs : List ℕ) → length xs ≡ most → take (r.end - r.start) (drop r.start xs) ≡ part xs first size
