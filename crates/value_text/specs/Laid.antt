-- Document 01, "The listing": the same at a place, what stands before it being as it was.
use Rattle.std.specs.Prelude.{◌≡◌, List, ◌++◌, ℕ, ◌+◌, ◌≤◌, length, take, drop}

pub record Laid (written bytes entry exit : List ℕ) (at next : ℕ) : Type 0 where
  pub after : next ≡ at + length bytes
  pub within : length bytes ≤ length written
  pub same : length exit ≡ length entry
  pub front : take next exit ≡ take at entry ++ bytes
  pub beyond : drop (at + length written) exit ≡ drop (at + length written) entry

-- where there is room for the text as it was written
abbrev pub Lays : List ℕ → List ℕ → List ℕ → List ℕ → ℕ → ℕ → Type 0
Lays written bytes entry exit at next = at + length written ≤ length entry → Laid written bytes entry exit at next
