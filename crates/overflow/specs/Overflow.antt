-- Document 02, R-2; SMT-LIB 2.7, theory FixedSizeBitVectors, bvnego, bvsaddo, bvsmulo: the exact result in whole numbers lies outside the signed range of the width.
use Rattle.std.specs.Prelude.{ℕ, ◌-◌, ◌%◌, ◌^◌, Bool, not, ◌&&◌, ℤ, pos, neg_ℤ, int_le, int_lt, nat_le}
use Rattle.words.specs.Extension.{signed}

abbrev pub overflows : ℕ → ℤ → Bool
overflows w z = not (int_le (neg_ℤ (pos (2 ^ (w - 1)))) z && int_lt z (pos (2 ^ (w - 1))))

-- widths over 128 are none of the request's, and there it is false
abbrev pub tells : ℕ → ℤ → Bool
tells w z = nat_le w 128 && overflows w z

-- the signed number of the low w bits
abbrev pub number : ℕ → ℕ → ℤ
number w n = signed w (n % 2 ^ w)
