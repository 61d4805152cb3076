-- SMT-LIB 2.7 §3.1 and document 01, "Bytes to tokens": the number of a run of digits, and refusal 4 where there is none of 128 bits.
use Rattle.std.specs.Prelude.{ℕ, ◌+◌, ◌*◌, ◌^◌, Bool, true, false, cond, ◌&&◌, List, [], ◌∷◌, nat_lt, Err, Ok, Result}
use Rattle.ground.specs.Lists.{all}
use Rattle.refusals.specs.declared.Refusal.TheVariants.{ParseIntError}
use Rattle.words.specs.declared.digits.Radix.{Radix}
use Rattle.words.specs.Pair.{pair_of}
use Rattle.words.specs.Radix.{base_of, worth, is_digit}
use Rattle.refusals.specs.declared.Refusal.{Refusal}
use Rattle.words.specs.declared.pair.Pair.{Pair}

-- the number of a run after one that stood for n: n times the base for each digit, and what the digits are worth
unfoldable pub from : ℕ → ℕ → List ℕ → ℕ
from base n [] = n
from base n (b ∷ bs) = from base (n * base + worth b) bs

abbrev pub number : ℕ → List ℕ → ℕ
number base s = from base 0 s

abbrev pub digits : Radix → List ℕ → Bool
digits r s = all (is_digit r) s

abbrev pub some_byte : List ℕ → Bool
some_byte [] = false
some_byte (b ∷ bs) = true

-- at least one digit, no other byte, below 2^128
unfoldable pub parsed : Radix → List ℕ → Result Pair Refusal
parsed r s =
    cond (some_byte s && digits r s && nat_lt (number (base_of r) s) (2 ^ 128))
    (Ok (pair_of (number (base_of r) s)))
    (Err ParseIntError)
