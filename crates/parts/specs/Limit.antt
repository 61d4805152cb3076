-- Document 01, "What is carried over", item 4: 9 over 16,777,216 bytes or ends in one lent input.
use Rattle.std.specs.Prelude.{Bool, List, ℕ, ltb, length}
use Rattle.refusals.specs.Limit.{input_limit}
use Rattle.ground.specs.Lists.{any}

-- the bytes, or the ends, of one lent input are too many
unfoldable pub too_long : List (List ℕ) → Bool
too_long inputs = any (λ input. ltb input_limit (length input)) inputs
