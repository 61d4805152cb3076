-- Document 01, "What is carried over", item 4: 9, then 25, then 26.
use Rattle.std.specs.Prelude.{Bool, cond, List, ℕ}
use Rattle.refusals.specs.declared.Refusal.TheVariants.{InputTooLong, BadTable, OutRoom}
use Rattle.lent.specs.Left.{Left, refusing, writing}
use Rattle.parts.specs.Limit.{too_long}

-- a line from these lent inputs, whose tables of ends are right or not, into a lent buffer
unfoldable pub scripted : List (List ℕ) → Bool → List ℕ → List ℕ → Left
scripted inputs right line buffer =
    cond (too_long inputs) (refusing InputTooLong buffer)
    (cond right (writing OutRoom line buffer) (refusing BadTable buffer))
