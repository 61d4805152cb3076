-- SMT-LIB fixed size bit vectors, signed value; document 01, "Bytes to tokens", sign extension of a bit vector's number to 128 bits.
use Rattle.std.specs.Prelude.{◌≡◌, ℕ, ◌+◌, ◌-◌, ◌*◌, ◌%◌, ◌^◌, Bool, cond, ◌&&◌, ℤ, pos, ◌+ℤ◌, ◌-ℤ◌, neg_ℤ, ◌≤ℤ◌, ◌<ℤ◌, nat_le, nat_lt, None, Option, Some}

-- the signed value of v at a width: v where v < 2^(width-1), else v - 2^width
unfoldable pub signed : ℕ → ℕ → ℤ
signed width v = cond (nat_lt v (2 ^ (width - 1))) (pos v) (pos v -ℤ pos (2 ^ width))

-- z is congruent to n modulo 2^width and lies in the width's signed range
pub record SignedOf (width n : ℕ) (z : ℤ) : Type 0 where
  pub times : ℕ
  pub congruent : z +ℤ pos (times * 2 ^ width) ≡ pos n
  pub least : neg_ℤ (pos (2 ^ (width - 1))) ≤ℤ z
  pub below : z <ℤ pos (2 ^ (width - 1))

-- the low bits of n are a negative number
abbrev pub negative : ℕ → ℕ → Bool
negative width n = nat_le (2 ^ (width - 1)) (n % 2 ^ width)

-- the low bits of n under ones up to a total
abbrev pub filled : ℕ → ℕ → ℕ → ℕ
filled total width n = n % 2 ^ width + (2 ^ total - 2 ^ width)

-- below width 128 a negative number is filled up with ones; from 128 on the number is as it is, and at width 0 too, as in the Rust
unfoldable pub extended : ℕ → ℕ → ℕ
extended width n = cond (nat_lt 0 width && nat_lt width 128 && negative width n) (filled 128 width n) n

-- the same within one word, from a bit on
unfoldable pub extended_word : ℕ → ℕ → Option ℕ
extended_word bit n = cond (negative (bit + 1) n) (Some (filled 64 (bit + 1) n)) None
