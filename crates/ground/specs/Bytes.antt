-- Words that document 01 and the standard quote, as bytes.
use Rattle.std.specs.Prelude.{List, [], ◌∷◌, ℕ}
use Prim.Native.Char.{code}
use Prim.Native.String.{String, [] as ends, ◌∷◌ as next}

-- the bytes of a quoted ASCII text
abbrev pub bytes : String → List ℕ
bytes ends = []
bytes (next c s) = code c ∷ bytes s
