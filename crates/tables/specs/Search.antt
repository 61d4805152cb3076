-- Document 01, "Sorts and literals", rows in order: the first one that passes a test, and a test that each one passes.
use Rattle.std.specs.Prelude.{Bool, true, false, cond, ◌&&◌, ℕ, zero, suc, None, Option, Some}

abbrev pub is_row : Option ℕ → Bool
is_row (Some i) = true
is_row None = false

-- among so many rows from one on
unfoldable pub first_row : (ℕ → Bool) → ℕ → ℕ → Option ℕ
first_row test i zero = None
first_row test i (suc n) = cond (test i) (Some i) (first_row test (suc i) n)

unfoldable pub every_row : (ℕ → Bool) → ℕ → ℕ → Bool
every_row test i zero = true
every_row test i (suc n) = test i && every_row test (suc i) n
