-- Document 01, "What is carried over", item 4, after smtlib_script.rs: how parts are written.
use Rattle.std.specs.Prelude.{cond, List, [], ◌∷◌, ◌++◌, ℕ, eqb}
use Rattle.ground.specs.Bytes.{bytes}
use Rattle.ground.specs.Lists.{joined}

-- parts in brackets, a space between two
abbrev pub list : List (List ℕ) → List ℕ
list parts = bytes "(" ++ (joined (bytes " ") parts ++ bytes ")")

abbrev pub pair : List ℕ → List ℕ → List ℕ
pair name sort = list (name ∷ sort ∷ [])

-- a space for a line feed
abbrev pub spaced : ℕ → ℕ
spaced byte = cond (eqb byte 0x0A) 0x20 byte
