-- A bit of a number that was set or not: it is as it was set, and the others are as they were.
-- Assumes nothing.
use mathlib.Core.Path.{◌≡◌, refl, sym, ap, ◌∙◌, subst}
use mathlib.Core.Bool.{Bool, true, false, cond}
use Prim.Native.Nat.{ℕ, suc, ◌+◌, ◌-◌, ◌*◌, ◌/◌, ◌%◌, ◌^◌, ◌≤◌, ◌<◌}
use native.Mathlib.Nat.{mod-lt, one-mul, zero-mul, suc-mul, mul-le-mul_right, lt_of_lt_of_le}
use native.Mathlib.Omega.{arith}
use lib.Dec.{eqb}
use lib.Pow.{pow_pos, pow-add, high, low, shr-shr, field, mod-mod-pow, split, mod-pow-add, shr_lt}
use Rattle.ground.proofs.Tests.{by_order}
use Rattle.words.proofs.Extends.{unit-is}
use Rattle.marks.specs.Mark.{bit, with_bit}

pub twice : (k : ℕ) → 2 ^ (1 + k) ≡ 2 * 2 ^ k
twice k = pow-add 2 1 k

part_small : (n k : ℕ) (b : Bool) → cond b (2 ^ k) 0 + n % 2 ^ k < 2 ^ (1 + k)
part_small n k true = let e = twice k in let l = mod-lt n (pow_pos k) in omega arith
part_small n k false = let e = twice k in let l = mod-lt n (pow_pos k) in omega arith

as_times : (k : ℕ) (b : Bool) → cond b (2 ^ k) 0 ≡ cond b 1 0 * 2 ^ k
as_times k true = sym (one-mul (2 ^ k))
as_times k false = sym (zero-mul (2 ^ k))

-- the bit is what is left of the low part
part-bit : (n k : ℕ) (b : Bool) → (cond b (2 ^ k) 0 + n % 2 ^ k) / 2 ^ k ≡ cond b 1 0
part-bit n k b = ap (λ (m : ℕ). (m + n % 2 ^ k) / 2 ^ k) (as_times k b) ∙ high (cond b 1 0) k (mod-lt n (pow_pos k))

part_low : (n k : ℕ) (b : Bool) → (cond b (2 ^ k) 0 + n % 2 ^ k) % 2 ^ k ≡ n % 2 ^ k
part_low n k b = ap (λ (m : ℕ). (m + n % 2 ^ k) % 2 ^ k) (as_times k b) ∙ low (cond b 1 0) k (mod-lt n (pow_pos k))

told : (b : Bool) → eqb (cond b 1 0) 1 ≡ b
told true = refl
told false = refl

-- a bit of a number is one of its low bits
from_low : (n i : ℕ) → n / 2 ^ i % 2 ≡ n % 2 ^ (1 + i) / 2 ^ i
from_low n i = sym (field n 1 i)

low_again : (n i k : ℕ) → i < k → n % 2 ^ (1 + i) ≡ n % 2 ^ k % 2 ^ (1 + i)
low_again n i k h =
    let e : k ≡ k - (1 + i) + (1 + i) = omega arith in
    sym (mod-mod-pow n (k - (1 + i)) (1 + i)) ∙ ap (λ (m : ℕ). n % 2 ^ m % 2 ^ (1 + i)) (sym e)

high-again : (n i k : ℕ) → k < i → n / 2 ^ i ≡ n / 2 ^ (1 + k) / 2 ^ (i - (1 + k))
high-again n i k h =
    let e : i ≡ 1 + k + (i - (1 + k)) = omega arith in
    ap (λ (m : ℕ). n / 2 ^ m) e ∙ sym (shr-shr n (1 + k) (i - (1 + k)))

module _ (n k : ℕ) (b : Bool) where
  same-high : with_bit n k b / 2 ^ (1 + k) ≡ n / 2 ^ (1 + k)
  same-high = high (n / 2 ^ (1 + k)) (1 + k) (part_small n k b)

  its-low : with_bit n k b % 2 ^ (1 + k) ≡ cond b (2 ^ k) 0 + n % 2 ^ k
  its-low = low (n / 2 ^ (1 + k)) (1 + k) (part_small n k b)

  same_low : with_bit n k b % 2 ^ k ≡ n % 2 ^ k
  same_low = sym (mod-mod-pow (with_bit n k b) 1 k) ∙ ap (λ (m : ℕ). m % 2 ^ k) its-low ∙ part_low n k b

  pub bit-set : bit (with_bit n k b) k ≡ b
  bit-set = ap (λ (m : ℕ). eqb m 1) (from_low (with_bit n k b) k ∙ ap (λ (m : ℕ). m / 2 ^ k) its-low ∙ part-bit n k b) ∙ told b

  pub bit-other : (i : ℕ) → (i ≡ k → ⊥) → bit (with_bit n k b) i ≡ bit n i
  bit-other i other =
      by_order i k
      (λ h. ap (λ (m : ℕ). eqb m 1)
      (from_low (with_bit n k b) i ∙ ap (λ (m : ℕ). m / 2 ^ i) (low_again (with_bit n k b) i k h ∙ ap (λ (m : ℕ). m % 2 ^ (1 + i)) same_low ∙ sym (low_again n i k h)) ∙ sym (from_low n i)))
      (λ h.
      let more : k < i = omega arith in
      ap (λ (m : ℕ). eqb (m % 2) 1) (high-again (with_bit n k b) i k more ∙ ap (λ (m : ℕ). m / 2 ^ (i - (1 + k))) same-high ∙ sym (high-again n i k more)))

-- what the code does to a word
module _ (n k : ℕ) where
  bits-split : n ≡ n / 2 ^ (1 + k) * 2 ^ (1 + k) + (n / 2 ^ k % 2 * 2 ^ k + n % 2 ^ k)
  bits-split = sym (split n (1 + k)) ∙ ap (λ (m : ℕ). n / 2 ^ (1 + k) * 2 ^ (1 + k) + m) (mod-pow-add n 1 k)

  pub clear_already : n / 2 ^ k % 2 ≡ 0 → n ≡ with_bit n k false
  clear_already e = bits-split ∙ ap (λ (m : ℕ). n / 2 ^ (1 + k) * 2 ^ (1 + k) + (m * 2 ^ k + n % 2 ^ k)) e ∙ (omega arith)

  clear-set : (n / 2 ^ k % 2 ≡ 0 → ⊥) → (2 ^ k ≤ n) × (n - 2 ^ k ≡ with_bit n k false)
  clear-set e =
      let o : n / 2 ^ k % 2 ≡ 1 = omega arith in
      let s : n ≡ n / 2 ^ (1 + k) * 2 ^ (1 + k) + (1 * 2 ^ k + n % 2 ^ k) = bits-split ∙ ap (λ (m : ℕ). n / 2 ^ (1 + k) * 2 ^ (1 + k) + (m * 2 ^ k + n % 2 ^ k)) o in
      (omega arith, omega arith)

  pub unit-taken : k < 64 → (n / 2 ^ k % 2 ≡ 0 → ⊥) → n - 1 * 2 ^ k % 2 ^ 64 ≡ with_bit n k false
  unit-taken h e = ap (λ (m : ℕ). n - m) (unit-is k h) ∙ (clear-set e).1

  pub set-cleared : with_bit n k false + 2 ^ k ≡ with_bit n k true
  set-cleared = omega arith

  pub set-fits : n < 2 ^ 64 → k < 64 → with_bit n k true < 2 ^ 64
  set-fits h l =
      let e : 64 ≡ 63 - k + (1 + k) = omega arith in
      let d : 2 ^ 64 ≡ 2 ^ (63 - k) * 2 ^ (1 + k) = ap (λ (m : ℕ). 2 ^ m) e ∙ pow-add 2 (63 - k) (1 + k) in
      let s : n / 2 ^ (1 + k) < 2 ^ (63 - k) = shr_lt (63 - k) (1 + k) (subst (λ (m : ℕ). n < 2 ^ m) e h) in
      lt_of_lt_of_le (within (n / 2 ^ (1 + k)) (2 ^ (1 + k)) _ (part_small n k true)) (subst (λ (m : ℕ). suc (n / 2 ^ (1 + k)) * 2 ^ (1 + k) ≤ m) (sym d) (mul-le-mul_right (2 ^ (1 + k)) s))
    where
      within : (q p r : ℕ) → r < p → q * p + r < suc q * p
      within q p r h = let e : suc q * p ≡ q * p + p = suc-mul q p in omega arith
