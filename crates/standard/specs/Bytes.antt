-- SMT-LIB 2.7 §3.1, the lexicon: the characters that tokens are made of, as lists of bytes.
use Rattle.std.specs.Prelude.{Bool, false, ◌&&◌, ◌||◌, List, [], ◌∷◌, ◌++◌, ℕ, zero, suc, leb, eqb}

unfoldable pub among : List ℕ → ℕ → Bool
among [] b = false
among (x ∷ xs) b = eqb b x || among xs b

-- so many bytes from one on
unfoldable pub from : ℕ → ℕ → List ℕ
from b zero = []
from b (suc n) = b ∷ from (suc b) n

-- tab, line feed, carriage return, space: form feed and vertical tab are none
abbrev pub white_spaces : List ℕ
white_spaces = 0x09 ∷ 0x0A ∷ 0x0D ∷ 0x20 ∷ []

-- either ends a comment
abbrev pub line_ends : List ℕ
line_ends = 0x0A ∷ 0x0D ∷ []

-- the bytes that no atom continues with: white space, `;` and the brackets
abbrev pub enders : List ℕ
enders = 0x3B ∷ 0x28 ∷ 0x29 ∷ white_spaces

abbrev pub binary_digits : List ℕ
binary_digits = 0x30 ∷ 0x31 ∷ []

unfoldable pub decimal_digits : List ℕ
decimal_digits = from 0x30 10

unfoldable pub hexadecimal_digits : List ℕ
hexadecimal_digits = decimal_digits ++ (from 0x41 6 ++ from 0x61 6)

-- letters and `~ ! @ $ % ^ & * _ - + = < > . ? /`
unfoldable pub symbol_starts : List ℕ
symbol_starts =
    from 0x41 26 ++ (from 0x61 26
    ++ (0x7E ∷ 0x21 ∷ 0x40 ∷ 0x24 ∷ 0x25 ∷ 0x5E ∷ 0x26 ∷ 0x2A ∷ 0x5F ∷ 0x2D ∷ 0x2B ∷ 0x3D ∷ 0x3C ∷ 0x3E ∷ 0x2E ∷ 0x3F ∷ 0x2F ∷ []))

unfoldable pub symbol_bytes : List ℕ
symbol_bytes = decimal_digits ++ symbol_starts

-- 20 to 7E hex, and from 80 hex on
abbrev pub printable : ℕ → Bool
printable b = leb 0x20 b && leb b 0x7E || leb 0x80 b
