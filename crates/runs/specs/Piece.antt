-- Document 01, "What changes shape": what of any bytes is compared, and what is moved, as the record at their front.
use Rattle.std.specs.Prelude.{cond, List, [], ◌∷◌, ◌++◌, ℕ, eqb, drop}
use Rattle.runs.specs.Run.{end, stop}

-- the byte that is compared first: 0 where the key has ended
unfoldable pub mark : List ℕ → ℕ
mark [] = 0
mark (b ∷ bs) = cond (eqb b stop) 0 b

-- the bytes before a stop and an end
unfoldable pub word : List ℕ → List ℕ
word [] = []
word (b ∷ bs) = cond (eqb b stop) [] (cond (eqb b end) [] (b ∷ word bs))

-- the bytes before the first end
unfoldable pub cell : List ℕ → List ℕ
cell [] = []
cell (b ∷ bs) = cond (eqb b end) [] (b ∷ cell bs)

-- the bytes up to and with the first end, or all
unfoldable pub piece : List ℕ → List ℕ
piece [] = []
piece (b ∷ bs) = b ∷ cond (eqb b end) [] (piece bs)

-- the key at a place
unfoldable pub key_at : List ℕ → ℕ → List ℕ
key_at s p = word (drop p s)

-- the pieces at places, one after the other
unfoldable pub pieces : List ℕ → List ℕ → List ℕ
pieces s [] = []
pieces s (p ∷ ps) = piece (drop p s) ++ pieces s ps
