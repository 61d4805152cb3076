-- Document 02, R-2, `ite` and the operators that give a bool: what is remembered of an application, one bit for two nodes, since the node behind an application's is its head's.
use Rattle.std.specs.Prelude.{Bool, cond, List, ℕ, ◌+◌, ◌*◌, ◌/◌, ◌%◌, ◌^◌, eqb, get_or, set}

-- a bit of a number, and the number with that bit set or not
abbrev pub bit : ℕ → ℕ → Bool
bit n k = eqb (n / 2 ^ k % 2) 1

abbrev pub with_bit : ℕ → ℕ → Bool → ℕ
with_bit n k b = n / 2 ^ (1 + k) * 2 ^ (1 + k) + (cond b (2 ^ k) 0 + n % 2 ^ k)

-- what is remembered of a node, and what is left where it is remembered
unfoldable pub marked : List ℕ → ℕ → Bool
marked ms node = bit (get_or ms (node / 128) 0) (node / 2 % 64)

unfoldable pub remembered : List ℕ → ℕ → Bool → List ℕ
remembered ms node b = set ms (node / 128) (with_bit (get_or ms (node / 128) 0) (node / 2 % 64) b)
