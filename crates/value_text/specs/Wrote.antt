-- Document 01, "The listing": a text at the front of what is lent, in the room of the text as it was written; past that room the bytes stay.
use Rattle.std.specs.Prelude.{◌≡◌, List, ℕ, ◌≤◌, length, take, drop}

pub record Wrote (need : ℕ) (bytes entry exit : List ℕ) (r : ℕ) : Type 0 where
  pub long : r ≡ length bytes
  pub within : length bytes ≤ need
  pub front : take (length bytes) exit ≡ bytes
  pub beyond : drop need exit ≡ drop need entry
