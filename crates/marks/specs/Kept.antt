-- Document 02, R-2: what was remembered of the nodes before a part of the arena, and behind it, stays.
use Rattle.std.specs.Prelude.{◌≡◌, List, ℕ, ◌/◌, ◌≤◌, ◌<◌, length}
use Rattle.marks.specs.Mark.{marked}

pub record Kept (ms ns : List ℕ) (first end : ℕ) : Type 0 where
  pub long : length ns ≡ length ms
  pub before : (j : ℕ) → j / 2 < first / 2 → marked ns j ≡ marked ms j
  pub behind : (j : ℕ) → end / 2 ≤ j / 2 → marked ns j ≡ marked ms j
