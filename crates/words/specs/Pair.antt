-- Document 01, "What is carried over", item 1: the number that a pair of words is, and the pair of a number that fits 128 bits.
use Rattle.std.specs.Prelude.{ℕ, ◌+◌, ◌*◌, ◌/◌, ◌%◌, ◌^◌, cond, nat_lt, None, Option, Some}
use Rattle.words.specs.declared.pair.Pair.{Pair}
use Rattle.words.specs.declared.pair.Order.{Order}
use Rattle.words.specs.declared.pair.Order.TheVariants.{Less, Same, More}

abbrev pub value : Pair → ℕ
value p = p.low + p.high * 2 ^ 64

abbrev pub pair_of : ℕ → Pair
pair_of n = record { low = n % 2 ^ 64; high = n / 2 ^ 64 }

-- a number, where 128 bits hold it
unfoldable pub grown : ℕ → Option Pair
grown n = cond (nat_lt n (2 ^ 128)) (Some (pair_of n)) None

-- the first number against the second, without signs, and handed on
abbrev pub ordered : Pair → ℕ → Order
ordered p n = cond (nat_lt (value p) n) (Less p) (cond (nat_lt n (value p)) (More p) (Same p))
