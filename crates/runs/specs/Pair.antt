-- Document 01, "The listing": places of records kept as pairs of bytes, the low byte first, at the front of a lent buffer.
use Rattle.std.specs.Prelude.{◌≡◌, List, [], ◌∷◌, ℕ, ◌+◌, ◌*◌, ◌<◌, get_or}

-- how many places at most are kept
abbrev pub places : ℕ
places = 512

-- the byte after them
abbrev pub base : ℕ
base = 1024

-- the first number that a pair of bytes does not hold
abbrev pub reach : ℕ
reach = 65536

-- the places that bytes keep
unfoldable pub pairs : List ℕ → List ℕ
pairs [] = []
pairs (low ∷ []) = []
pairs (low ∷ high ∷ bytes) = (low + high * 256) ∷ pairs bytes

-- the place of a number
pub record Place (bytes : List ℕ) (i r : ℕ) : Type 0 where
  pub same : r ≡ get_or (pairs bytes) i 0
  pub small : r < reach
