-- No document: where the programs that replay vectors stand in what they were lent. A place inside stays inside.
use Rattle.std.specs.Prelude.{ℕ, max, ◌≤◌}

-- from a place of so many bytes to a later one
pub record Onward (size from to : ℕ) : Type 0 where
  pub inside : to ≤ max from size
  pub later : from ≤ to
