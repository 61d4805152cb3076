-- Document 01, "What changes shape": one byte of a lent buffer in place of another, wherever that stands.
use Rattle.std.specs.Prelude.{cond, List, [], ◌∷◌, ℕ, eqb}

unfoldable pub replacement : ℕ → ℕ → ℕ → ℕ
replacement from to b = cond (eqb b from) to b

unfoldable pub replaced : ℕ → ℕ → List ℕ → List ℕ
replaced from to [] = []
replaced from to (b ∷ bs) = replacement from to b ∷ replaced from to bs
