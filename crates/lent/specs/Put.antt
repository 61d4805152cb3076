-- Document 01, "Numbers given back" and "What is carried over", item 4: a piece written at a place, and the rest as it was.
use Rattle.std.specs.Prelude.{◌≡◌, List, ℕ, ◌+◌, ◌≤◌, length}
use Rattle.std.proofs.lemmas.List.Edits.{sets}
use Rattle.lent.specs.Left.{onto}

-- the place after the piece, and what the buffer then holds
pub record Puts (entry exit : List ℕ) (at : ℕ) (bytes : List ℕ) (next : ℕ) : Type 0 where
  pub after : next ≡ at + length bytes
  pub holds : exit ≡ sets entry at bytes

-- the same at the front: how long the text is, and what the buffer then holds
pub record Fronts (text entry exit : List ℕ) (count : ℕ) : Type 0 where
  pub long : count ≡ length text
  pub holds : exit ≡ onto text entry

-- a piece at a place, where there is room for it
abbrev pub Offers : List ℕ → List ℕ → ℕ → List ℕ → ℕ → Type 0
Offers entry exit at bytes next = at + length bytes ≤ length entry → Puts entry exit at bytes next
