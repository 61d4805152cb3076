-- SMT-LIB 2.7 §3.1, string literal, with the Unicode Strings theory: the code points of what stands between two quotes.
use Rattle.std.specs.Prelude.{cond, List, [], ◌∷◌, ℕ, zero, suc, eqb, None, Option, Some}
use Rattle.strings.specs.declared.character.Character.{Character}
use Rattle.strings.specs.Escape.{starts_by, escape}
use Rattle.strings.specs.declared.escape.Escape.{Escape}

abbrev pub one : ℕ → Character
one b = record { point = b; more = 0 }

-- an escape's code point; a backslash that begins none is itself
abbrev pub escaped : Option Escape → Character
escaped (Some it) = record { point = it.value; more = it.bytes }
escaped None = one 0x5C

-- two quotes stand for one
abbrev pub two_quotes : Character
two_quotes = record { point = 0x22; more = 1 }

-- DEPARTURE: a direct call may hold a lone quote, which no literal does; it is a quote
abbrev pub lone_quote : Character
lone_quote = one 0x22

-- DEPARTURE: a byte of 80 hex or more is the code point of its number, whatever its neighbours are
abbrev pub raw_byte : ℕ → Character
raw_byte b = one b

-- the character that the bytes start with
unfoldable pub character_at : List ℕ → Character
character_at [] = one 0
character_at (b ∷ bs) =
    cond (eqb b 0x5C) (escaped (escape bs))
    (cond (eqb b 0x22) (cond (starts_by 0x22 bs) two_quotes lone_quote)
    (raw_byte b))

-- the code points from a place on where k more bytes belong to the character before it
unfoldable pub points_after : ℕ → List ℕ → List ℕ
points_after k [] = []
points_after zero (b ∷ bs) = (character_at (b ∷ bs)).point ∷ points_after (character_at (b ∷ bs)).more bs
points_after (suc k) (b ∷ bs) = points_after k bs

abbrev pub points : List ℕ → List ℕ
points s = points_after 0 s
