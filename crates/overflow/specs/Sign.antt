-- Document 02, R-2: a whole number by its sign and its size, and what is told of one whose size may have left 128 bits.
use Rattle.std.specs.Prelude.{◌≡◌, ℕ, Bool, true, false, ℤ, pos, neg_ℤ, Option}
use Rattle.words.specs.Pair.{grown}
use Rattle.overflow.specs.Overflow.{tells}
use Rattle.words.specs.declared.pair.Pair.{Pair}

abbrev pub signed_by : Bool → ℕ → ℤ
signed_by true n = neg_ℤ (pos n)
signed_by false n = pos n

abbrev pub Leaves : ℕ → Bool → Option Pair → Bool → Type 0
Leaves w negative size r = (n : ℕ) → size ≡ grown n → r ≡ tells w (signed_by negative n)
