-- Document 01, "What is carried over", item 4: how many 0A bytes there are, in a line and in its parts.
use Rattle.std.specs.Prelude.{cond, List, [], ◌∷◌, ℕ, suc, ◌+◌, eqb}

unfoldable pub feeds : List ℕ → ℕ
feeds [] = 0
feeds (byte ∷ bytes) = cond (eqb byte 0x0A) (suc (feeds bytes)) (feeds bytes)

unfoldable pub feeds_in : List (List ℕ) → ℕ
feeds_in [] = 0
feeds_in (part ∷ parts) = feeds part + feeds_in parts
