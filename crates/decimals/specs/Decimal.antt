-- Document 01, "The listing": signed decimal, and numbers in decimal, without leading zeros.
use Rattle.std.specs.Prelude.{cond, List, [], ◌∷◌, ◌++◌, ℕ, zero, suc, ◌+◌, ◌/◌, ◌%◌, ltb, ℤ, pos, negsuc}

-- the last k decimal digits of n
unfoldable pub last_digits : ℕ → ℕ → List ℕ
last_digits zero n = []
last_digits (suc k) n = last_digits k (n / 10) ++ ((48 + n % 10) ∷ [])

-- how many digits n has, the first no zero unless it is the only one; true of a number of at most f + 1 digits
unfoldable pub digit_count_within : ℕ → ℕ → ℕ
digit_count_within zero n = 1
digit_count_within (suc f) n = cond (ltb n 10) 1 (suc (digit_count_within f (n / 10)))

-- every number of 128 bits has at most 40
abbrev pub digit_count : ℕ → ℕ
digit_count n = digit_count_within 39 n

unfoldable pub decimal : ℕ → List ℕ
decimal n = last_digits (digit_count n) n

-- a minus sign for a number below 0
unfoldable pub signed_decimal : ℤ → List ℕ
signed_decimal (pos n) = decimal n
signed_decimal (negsuc n) = 45 ∷ decimal (suc n)
