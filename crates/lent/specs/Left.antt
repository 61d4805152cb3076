-- Document 01, "Numbers given back": a text that fits is written to the front of what was lent and the rest stays; else the
-- exact need is told, and all lent memory stays the same.
use Rattle.std.specs.Prelude.{◌≡◌, cond, List, ◌++◌, ℕ, leb, length, drop, Err, Ok, Result}
use Rattle.refusals.specs.declared.Refusal.{Refusal}

-- a buffer with a text at its front: what lies past the text is as it was
unfoldable pub onto : List ℕ → List ℕ → List ℕ
onto text buffer = text ++ drop (length text) buffer

-- what a call leaves: its answer, and what the buffer then holds
pub record Left : Type 0 where
  pub answer : Result ℕ Refusal
  pub holds : List ℕ

abbrev pub refusing : Refusal → List ℕ → Left
refusing why buffer = record { answer = Err why; holds = buffer }

-- the text where the buffer has room for it, else the refusal that tells the need
unfoldable pub writing : (ℕ → Refusal) → List ℕ → List ℕ → Left
writing short text buffer =
    cond (leb (length text) (length buffer))
    (record { answer = Ok (length text); holds = onto text buffer })
    (refusing (short (length text)) buffer)

-- a result and a buffer at exit are those that are left
pub record Leaves (left : Left) (result : Result ℕ Refusal) (exit : List ℕ) : Type 0 where
  pub answers : result ≡ left.answer
  pub holds : exit ≡ left.holds
