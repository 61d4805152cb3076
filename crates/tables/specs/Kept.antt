-- Document 01, "Sorts and literals": the kept words, which no sort and no enum member may be named.
use Rattle.std.specs.Prelude.{Bool, List, [], ◌∷◌, ◌++◌, ℕ}
use Rattle.ground.specs.Bytes.{bytes}
use Rattle.ground.specs.Lists.{any}
use Rattle.arena.specs.Text.{same_text}

-- of Booleans and bit vectors
abbrev pub core_words : List (List ℕ)
core_words =
    bytes "true" ∷ bytes "false" ∷ bytes "not" ∷ bytes "or" ∷ bytes "=" ∷ bytes "ite"
    ∷ bytes "bvnego" ∷ bytes "bvsaddo" ∷ bytes "bvsmulo"
    ∷ []

-- that literals begin with
abbrev pub literal_words : List (List ℕ)
literal_words =
    bytes "as" ∷ bytes "some" ∷ bytes "none" ∷ bytes "set.empty" ∷ bytes "set.singleton" ∷ bytes "set.union"
    ∷ bytes "Decimal" ∷ bytes "Datetime" ∷ bytes "Duration" ∷ bytes "V4" ∷ bytes "V6"
    ∷ []

-- that sorts are written with
abbrev pub sort_words : List (List ℕ)
sort_words = bytes "_" ∷ bytes "Bool" ∷ bytes "String" ∷ bytes "BitVec" ∷ bytes "Option" ∷ bytes "Set" ∷ []

unfoldable pub kept_words : List (List ℕ)
kept_words = core_words ++ (literal_words ++ sort_words)

unfoldable pub kept : List ℕ → Bool
kept name = any (same_text name) kept_words
