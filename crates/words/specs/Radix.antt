-- SMT-LIB 2.7 §3.1, numeral, binary and hexadecimal: the digits of each radix.
use Rattle.std.specs.Prelude.{ℕ, ◌-◌, Bool, cond, ◌&&◌, nat_le, nat_lt}
use Rattle.words.specs.declared.digits.Radix.{Radix}
use Rattle.words.specs.declared.digits.Radix.TheVariants.{Binary, Decimal, Hexadecimal}

abbrev pub base_of : Radix → ℕ
base_of Binary = 2
base_of Decimal = 10
base_of Hexadecimal = 16

abbrev pub within : ℕ → ℕ → ℕ → Bool
within least most b = nat_le least b && nat_le b most

-- what `0` to `9`, `A` to `F` and `a` to `f` are worth; 16, which no radix has, for any other byte
unfoldable pub worth : ℕ → ℕ
worth b =
    cond (within 48 57 b) (b - 48)
    (cond (within 65 70 b) (b - 55)
    (cond (within 97 102 b) (b - 87)
    16))

abbrev pub is_digit : Radix → ℕ → Bool
is_digit r b = nat_lt (worth b) (base_of r)
