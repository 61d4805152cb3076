-- Document 01, "Sorts and literals", no two rows the same: where a row is marked while the check of 25 goes from the last row to
-- the first. Of the code, no promise: rows that are the same have one slot, and so have some others.
use Rattle.std.specs.Prelude.{List, [], ◌∷◌, ℕ, ◌+◌, ◌*◌, ◌%◌}

abbrev pub slots : ℕ
slots = 4096

abbrev pub next_slot : ℕ → ℕ → ℕ
next_slot slot x = (slot * 123 + x) % slots

unfoldable pub slot_from : ℕ → List ℕ → ℕ
slot_from slot [] = slot
slot_from slot (x ∷ xs) = slot_from (next_slot slot x) xs
