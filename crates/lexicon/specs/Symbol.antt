-- Document 01, "Sorts and literals", a name that the lexer would give as one symbol.
use Rattle.std.specs.Prelude.{Bool, false, ◌&&◌, List, [], ◌∷◌, ℕ, eqb}
use Rattle.ground.specs.Lists.{all}
use Rattle.utf8.specs.Octets.{utf8}
use Rattle.lexicon.specs.Class.{other, class_of}
use Rattle.lexicon.specs.Span.{in_symbol}

-- it starts as a symbol does, goes on as one to its end, and is UTF-8
unfoldable pub one_symbol : List ℕ → Bool
one_symbol [] = false
one_symbol (b ∷ bs) = eqb (class_of b) other && all in_symbol bs && utf8 (b ∷ bs)
