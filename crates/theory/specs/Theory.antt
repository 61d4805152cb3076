-- Unicode Strings, string literals: the characters that the unquoted bytes stand for, by the theory's six forms of an escape.
use Rattle.std.specs.Prelude.{Bool, cond, ◌&&◌, ◌||◌, List, [], ◌∷◌, ℕ, zero, suc, ◌+◌, ◌-◌, ◌*◌, leb, eqb, length, None, Option, Some}
use Rattle.theory.specs.Literal.{within}

-- `0` to `9`, `A` to `F` and `a` to `f`
unfoldable pub is_hex : ℕ → Bool
is_hex b = within 0x30 0x39 b || within 0x41 0x46 b || within 0x61 0x66 b

unfoldable pub hex_value : ℕ → ℕ
hex_value b =
    cond (within 0x30 0x39 b) (b - 0x30)
    (cond (within 0x41 0x46 b) (10 + (b - 0x41))
    (10 + (b - 0x61)))

-- one place of an escape: this byte, or a hexadecimal digit of at most this value
pub data Place : Type 0 where
  only : ℕ → Place
  digit : ℕ → Place

abbrev pub backslash : Place
backslash = only 0x5C

abbrev pub u : Place
u = only 0x75

abbrev pub opening : Place
opening = only 0x7B

abbrev pub closing : Place
closing = only 0x7D

abbrev pub d : Place
d = digit 0xF

-- 0, 1 or 2
abbrev pub d₄ : Place
d₄ = digit 2

abbrev pub escapes : List (List Place)
escapes =
    (backslash ∷ u ∷ d ∷ d ∷ d ∷ d ∷ [])  -- \ud₃d₂d₁d₀
    ∷ (backslash ∷ u ∷ opening ∷ d ∷ closing ∷ [])  -- \u{d₀}
    ∷ (backslash ∷ u ∷ opening ∷ d ∷ d ∷ closing ∷ [])  -- \u{d₁d₀}
    ∷ (backslash ∷ u ∷ opening ∷ d ∷ d ∷ d ∷ closing ∷ [])  -- \u{d₂d₁d₀}
    ∷ (backslash ∷ u ∷ opening ∷ d ∷ d ∷ d ∷ d ∷ closing ∷ [])  -- \u{d₃d₂d₁d₀}
    ∷ (backslash ∷ u ∷ opening ∷ d₄ ∷ d ∷ d ∷ d ∷ d ∷ closing ∷ [])  -- \u{d₄d₃d₂d₁d₀}
    ∷ []

abbrev pub fits : Place → ℕ → Bool
fits (only x) b = eqb b x
fits (digit most) b = is_hex b && leb (hex_value b) most

-- the number so far, with the digit written behind it
abbrev pub grown : ℕ → Place → ℕ → ℕ
grown n (only x) b = n
grown n (digit most) b = n * 16 + hex_value b

-- where the bytes start with the form, the number of its digits, written after those of n
unfoldable pub number_by : List Place → ℕ → List ℕ → Option ℕ
number_by [] n s = Some n
number_by (p ∷ ps) n [] = None
number_by (p ∷ ps) n (b ∷ bs) = cond (fits p b) (number_by ps (grown n p b) bs) None

-- a character, and how many bytes past the first stand for it
pub record Spelled : Type 0 where
  pub character : ℕ
  pub more : ℕ

abbrev pub or_else : Option ℕ → ℕ → Spelled → Spelled
or_else (Some n) more other = record { character = n; more = more }
or_else None more other = other

-- by the first form that the bytes start with; where there is none the byte, a backslash too, stands for itself
unfoldable pub spelled_by : List (List Place) → ℕ → List ℕ → Spelled
spelled_by [] b bs = record { character = b; more = 0 }
spelled_by (f ∷ fs) b bs = or_else (number_by f 0 (b ∷ bs)) (length f - 1) (spelled_by fs b bs)

-- the characters from a place on where k more bytes belong to the character before it
unfoldable pub characters_by : List (List Place) → ℕ → List ℕ → List ℕ
characters_by fs k [] = []
characters_by fs zero (b ∷ bs) = (spelled_by fs b bs).character ∷ characters_by fs (spelled_by fs b bs).more bs
characters_by fs (suc k) (b ∷ bs) = characters_by fs k bs

unfoldable pub characters : List ℕ → List ℕ
characters s = characters_by escapes 0 s
