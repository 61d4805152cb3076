-- RFC 3629, section 3: the encoding of one code point
use Rattle.std.specs.Prelude.{Bool, cond, ◌&&◌, ◌||◌, List, [], ◌∷◌, ℕ, ◌+◌, ◌/◌, ◌%◌, leb, ltb}
use Rattle.utf8.specs.declared.Encoded.{Encoded}
use Rattle.utf8.specs.declared.Encoded.TheVariants.{One, Two, Three, Four, NoEncoding}

-- up to 10FFFF, and no surrogate: D800 to DFFF
unfoldable pub scalar : ℕ → Bool
scalar n = ltb n 0xD800 || leb 0xE000 n && leb n 0x10FFFF

-- six bits of the number in each tail, the highest in the first byte
abbrev pub sequence_of : ℕ → Encoded
sequence_of n =
    cond (ltb n 0x80) (One n)
    (cond (ltb n 0x800) (Two (0xC0 + n / 64) (0x80 + n % 64))
    (cond (ltb n 0x10000) (Three (0xE0 + n / 4096) (0x80 + n / 64 % 64) (0x80 + n % 64))
    (Four (0xF0 + n / 262144) (0x80 + n / 4096 % 64) (0x80 + n / 64 % 64) (0x80 + n % 64))))

unfoldable pub encoded : ℕ → Encoded
encoded n = cond (scalar n) (sequence_of n) NoEncoding

abbrev pub bytes_of : Encoded → List ℕ
bytes_of (One a) = a ∷ []
bytes_of (Two a b) = a ∷ b ∷ []
bytes_of (Three a b c) = a ∷ b ∷ c ∷ []
bytes_of (Four a b c d) = a ∷ b ∷ c ∷ d ∷ []
bytes_of NoEncoding = []
