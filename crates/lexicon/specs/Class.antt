-- Document 01, "Bytes to tokens", the class table: what each byte starts.
use Rattle.std.specs.Prelude.{Bool, cond, ◌&&◌, ◌||◌, List, [], ◌∷◌, ℕ, zero, suc, leb, eqb}

-- the classes, by the numbers that stand in the table
abbrev pub blank : ℕ
blank = 0

abbrev pub opening : ℕ
opening = 1

abbrev pub closing : ℕ
closing = 2

abbrev pub comment : ℕ
comment = 3

abbrev pub quote : ℕ
quote = 4

abbrev pub hash : ℕ
hash = 5

abbrev pub digit : ℕ
digit = 6

abbrev pub other : ℕ
other = 7

abbrev pub white_space : ℕ → Bool
white_space b = eqb b 0x09 || eqb b 0x0A || eqb b 0x0C || eqb b 0x0D || eqb b 0x20

unfoldable pub class_of : ℕ → ℕ
class_of b =
    cond (white_space b) blank
    (cond (eqb b 0x28) opening
    (cond (eqb b 0x29) closing
    (cond (eqb b 0x3B) comment
    (cond (eqb b 0x22) quote
    (cond (eqb b 0x23) hash
    (cond (leb 0x30 b && leb b 0x39) digit
    other))))))

-- a rule's value at n places, the first of them k
unfoldable pub tabled : (ℕ → ℕ) → ℕ → ℕ → List ℕ
tabled rule zero k = []
tabled rule (suc n) k = rule k ∷ tabled rule n (suc k)

-- the table: an entry for each byte
unfoldable pub classes : List ℕ
classes = tabled class_of 256 0
