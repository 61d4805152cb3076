-- What a byte is worth as a digit, by the range that it lies in.
-- Assumes nothing.
use Rattle.std.proofs.Common.{◌≡◌, ℕ, ◌+◌, ◌-◌, ◌%◌, ◌^◌, ◌<◌, ◌≤◌, Bool, true, false, cond, leb, arith, le-leb}
use borrow.Author.Tests.{lt-leb}
use Rattle.ground.proofs.Tests.{and-false, by_order}
use Rattle.words.specs.Radix.{within, worth}

module _ (least most b : ℕ) where
  pub inside : least ≤ b → b ≤ most → within least most b ≡ true
  inside h k = rw (le-leb least b h) (rw (le-leb b most k))

  under : b < least → within least most b ≡ false
  under h = rw (lt-leb least b h)

  over : most < b → within least most b ≡ false
  over h = rw (lt-leb b most h) (and-false (leb least b))

worth-by : (b : ℕ) (x y z : Bool) → within 48 57 b ≡ x → within 65 70 b ≡ y → within 97 102 b ≡ z
    → cond x (b - 48) (cond y (b - 55) (cond z (b - 87) 16)) ≡ worth b
unfolding worth
worth-by b x y z p q r = rw (p, q, r)

module _ (b : ℕ) where
  below-digits : b < 48 → 16 ≡ worth b
  below-digits h = worth-by b false false false (under 48 57 b h) (under 65 70 b (omega arith)) (under 97 102 b (omega arith))

  pub a-digit : 48 ≤ b → b ≤ 57 → b - 48 ≡ worth b
  a-digit h k = worth-by b true false false (inside 48 57 b h k) (under 65 70 b (omega arith)) (under 97 102 b (omega arith))

  below_capitals : 57 < b → b < 65 → 16 ≡ worth b
  below_capitals h k = worth-by b false false false (over 48 57 b h) (under 65 70 b k) (under 97 102 b (omega arith))

  -- the distance from `0`, which wraps below it
  module _ (d : ℕ) (wraps : (d + 48) % 2 ^ 8 ≡ b) where
    pub no-decimal : d < 2 ^ 8 → 10 ≤ d → b < 65 → 16 ≡ worth b
    no-decimal small h k = by_order b 48 (λ low. below-digits low) (λ high. below_capitals (omega arith) k)

  pub above-letters : 102 < b → 16 ≡ worth b
  above-letters h = worth-by b false false false (over 48 57 b (omega arith)) (over 65 70 b (omega arith)) (over 97 102 b h)
