-- Document 01, "The arena", String and Symbol: the bytes that a length and a text offset stand for.
use Rattle.std.specs.Prelude.{Bool, true, false, ◌&&◌, List, [], ◌∷◌, ℕ, ◌+◌, eqb, leb, length, take, drop}

abbrev pub text_at : List ℕ → ℕ → ℕ → List ℕ
text_at ts offset size = take size (drop offset ts)

-- the same bytes in the same order
unfoldable pub same_text : List ℕ → List ℕ → Bool
same_text [] [] = true
same_text [] (y ∷ ys) = false
same_text (x ∷ xs) [] = false
same_text (x ∷ xs) (y ∷ ys) = eqb x y && same_text xs ys

-- the text has them all, and they are the name
unfoldable pub text_is : List ℕ → ℕ → ℕ → List ℕ → Bool
text_is ts offset size name = leb (offset + size) (length ts) && same_text (text_at ts offset size) name
