-- Unicode Strings theory, escapes; document 01, "Bytes to tokens", `\u`: what the bytes after a backslash stand for.
use Rattle.std.specs.Prelude.{Bool, false, cond, ◌&&◌, List, [], ◌∷◌, ℕ, ◌+◌, leb, ltb, eqb, length, take, drop, None, Option, Some}
use Rattle.words.specs.Radix.{worth}
use Rattle.words.specs.Run.{number}
use Rattle.strings.specs.declared.escape.Braced.{Braced}
use Rattle.strings.specs.declared.escape.Escape.{Escape}

-- the longest run of hexadecimal digits that the bytes start with
unfoldable pub hex_run : List ℕ → List ℕ
hex_run [] = []
hex_run (b ∷ bs) = cond (ltb (worth b) 16) (b ∷ hex_run bs) []

abbrev pub starts_by : ℕ → List ℕ → Bool
starts_by x [] = false
starts_by x (b ∷ bs) = eqb b x

-- the greatest code point that a literal may name
abbrev pub max_code_point : ℕ
max_code_point = 0x2FFFF

-- DEPARTURE from the theory, which has five: braces may hold six digits
abbrev pub most_digits : ℕ
most_digits = 6

-- digits and a closing brace
unfoldable pub braced : List ℕ → Option Braced
braced s =
    cond (leb (length (hex_run s)) most_digits && starts_by 0x7D (drop (length (hex_run s)) s))
    (Some (record { value = number 16 (hex_run s); digits = length (hex_run s) }))
    None

-- a digit at least, and a code point of the theory; `u`, `{`, the digits and `}` are its bytes
abbrev pub closed : Option Braced → Option Escape
closed (Some it) = cond (leb 1 it.digits && leb it.value max_code_point) (Some (record { value = it.value; bytes = it.digits + 3 })) None
closed None = None

unfoldable pub braced_escape : List ℕ → Option Escape
braced_escape s = closed (braced s)

-- exactly four digits; `u` and they are its bytes
unfoldable pub four_digits : List ℕ → Option Escape
four_digits s = cond (eqb (length (hex_run (take 4 s))) 4) (Some (record { value = number 16 (take 4 s); bytes = 5 })) None

abbrev pub after_u : List ℕ → Option Escape
after_u [] = None
after_u (b ∷ bs) = cond (eqb b 0x7B) (braced_escape bs) (four_digits (b ∷ bs))

-- any other use of a backslash stands for itself
unfoldable pub escape : List ℕ → Option Escape
escape [] = None
escape (b ∷ bs) = cond (eqb b 0x75) (after_u bs) None
