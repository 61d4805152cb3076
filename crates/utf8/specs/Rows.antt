-- RFC 3629, section 4: the rows of UTF-8 byte sequences
use Rattle.std.specs.Prelude.{List, [], ◌∷◌, ℕ}

infix 70 ◌to◌
-- the octets from the first number to the last, both among them
pub data Span : Type 0 where
  ◌to◌ : ℕ → ℕ → Span

abbrev only : ℕ → Span
only b = b to b

abbrev pub tail : Span
tail = 0x80 to 0xBF

abbrev pub rows : List (List Span)
rows =
    (0x00 to 0x7F ∷ [])  -- UTF8-1
    ∷ (0xC2 to 0xDF ∷ tail ∷ [])  -- UTF8-2
    ∷ (only 0xE0 ∷ 0xA0 to 0xBF ∷ tail ∷ [])  -- UTF8-3
    ∷ (0xE1 to 0xEC ∷ tail ∷ tail ∷ [])
    ∷ (only 0xED ∷ 0x80 to 0x9F ∷ tail ∷ [])
    ∷ (0xEE to 0xEF ∷ tail ∷ tail ∷ [])
    ∷ (only 0xF0 ∷ 0x90 to 0xBF ∷ tail ∷ tail ∷ [])  -- UTF8-4
    ∷ (0xF1 to 0xF3 ∷ tail ∷ tail ∷ tail ∷ [])
    ∷ (only 0xF4 ∷ 0x80 to 0x8F ∷ tail ∷ tail ∷ [])
    ∷ []
