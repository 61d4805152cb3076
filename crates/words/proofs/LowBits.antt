-- The lowest bits of a number of two words, in the code's steps.
-- Assumes nothing.
use Rattle.std.proofs.Common.{◌≡◌, ℕ, ◌+◌, ◌-◌, ◌*◌, ◌/◌, ◌%◌, ◌^◌, ◌<◌, ◌≤◌, sym, ap, ◌∙◌, ap₂, lt_of_lt_of_le, mod-eq_of_lt, add_comm, arith, pow_mono}
use lib.Pow.{mod-pow-add, mod-mod-pow}
use Rattle.words.proofs.Numbers.{value-fits}
use Rattle.words.proofs.Extends.{unit-is}

-- the lowest bits of a number of two words
module _ (low high w : ℕ) (l : low < 2 ^ 64) where
  pub bits-all : high < 2 ^ 64 → 128 ≤ w → low + high * 2 ^ 64 ≡ (low + high * 2 ^ 64) % 2 ^ w
  bits-all h k = sym (mod-eq_of_lt (lt_of_lt_of_le (value-fits low high l h) (pow_mono k)))

  pub bits-high : 64 ≤ w → w < 128 → low + high % (1 * 2 ^ (w - 64) % 2 ^ 64) * 2 ^ 64 ≡ (low + high * 2 ^ 64) % 2 ^ w
  bits-high k j =
      let q : (low + high * 2 ^ 64) / 2 ^ 64 ≡ high = omega arith in
      let m : (low + high * 2 ^ 64) % 2 ^ 64 ≡ low = omega arith in
      let e : w ≡ w - 64 + 64 = omega arith in
      ap (λ (p : ℕ). low + high % p * 2 ^ 64) (unit-is (w - 64) (omega arith))
      ∙ add_comm low (high % 2 ^ (w - 64) * 2 ^ 64)
      ∙ sym (ap (λ (p : ℕ). (low + high * 2 ^ 64) % 2 ^ p) e ∙ mod-pow-add (low + high * 2 ^ 64) (w - 64) 64
      ∙ ap₂ (λ (x y : ℕ). x % 2 ^ (w - 64) * 2 ^ 64 + y) q m)

  pub bits-low : w < 64 → low % (1 * 2 ^ w % 2 ^ 64) + 0 * 2 ^ 64 ≡ (low + high * 2 ^ 64) % 2 ^ w
  bits-low k =
      let m : (low + high * 2 ^ 64) % 2 ^ 64 ≡ low = omega arith in
      let e : 64 - w + w ≡ 64 = omega arith in
      let z : low % 2 ^ w + 0 * 2 ^ 64 ≡ low % 2 ^ w = omega arith in
      ap (λ (p : ℕ). low % p + 0 * 2 ^ 64) (unit-is w k) ∙ z
      ∙ sym (sym (mod-mod-pow (low + high * 2 ^ 64) (64 - w) w) ∙ ap (λ (p : ℕ). (low + high * 2 ^ 64) % 2 ^ p % 2 ^ w) e ∙ ap (λ (x : ℕ). x % 2 ^ w) m)
