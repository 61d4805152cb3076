-- The order of two numbers, and of a number and a power of two.
-- Assumes nothing.
use Rattle.std.proofs.Common.{◌≡◌, ℕ, ◌+◌, ◌*◌, ◌^◌, ◌<◌, ◌≤◌, arith, le-ltb, lt-ltb}
use Rattle.words.specs.declared.pair.Order.TheVariants.{Less, Same, More}
use Rattle.words.specs.declared.pair.Pair.{Pair}
use Rattle.words.specs.Pair.{value, ordered}

pub ordered-less : (p : Pair) (n : ℕ) → value p < n → Less p ≡ ordered p n
ordered-less p n h = rw (lt-ltb (value p) n h)

pub ordered-more : (p : Pair) (n : ℕ) → n < value p → More p ≡ ordered p n
ordered-more p n h = let k : n ≤ value p = omega arith in rw (le-ltb (value p) n k) (rw (lt-ltb n (value p) h))

pub ordered_same : (p : Pair) (n : ℕ) → value p ≡ n → Same p ≡ ordered p n
ordered_same p n h =
    let k : n ≤ value p = omega arith in
    let l : value p ≤ n = omega arith in
    rw (le-ltb (value p) n k) (rw (le-ltb n (value p) l))

-- pairs by their high words first
module _ (l h m k : ℕ) where
  pub high-less : l < 2 ^ 64 → h < k → l + h * 2 ^ 64 < m + k * 2 ^ 64
  high-less a b = omega arith
