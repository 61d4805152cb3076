-- Document 01, "Bytes to tokens", symbols and comments: how many bytes belong to one that has begun.
use Rattle.std.specs.Prelude.{Bool, cond, not, ◌||◌, List, [], ◌∷◌, ℕ, suc, eqb}
use Rattle.lexicon.specs.Class.{digit, other, class_of}

-- how many bytes come first that pass a test
unfoldable pub span_by : (ℕ → Bool) → List ℕ → ℕ
span_by test [] = 0
span_by test (b ∷ bs) = cond (test b) (suc (span_by test bs)) 0

-- digits may follow in a symbol
unfoldable pub in_symbol : ℕ → Bool
in_symbol b = eqb (class_of b) other || eqb (class_of b) digit

abbrev pub symbol_span : List ℕ → ℕ
symbol_span s = span_by in_symbol s

-- a line feed is not part of the comment that it ends
unfoldable pub in_line : ℕ → Bool
in_line b = not (eqb b 0x0A)

abbrev pub line_span : List ℕ → ℕ
line_span s = span_by in_line s
