-- How many digits a number has.
-- Assumes nothing.
use mathlib.Core.Path.{◌≡◌, sym, ap, ◌∙◌, refl, subst}
use mathlib.Core.Bool.{Bool, cond}
use Prim.Native.Nat.{ℕ, zero, suc, ◌+◌, ◌*◌, ◌/◌, ◌^◌, ◌<◌, ◌≤◌}
use native.Mathlib.Nat.{div-lt_iff_lt-mul, lt_of_lt_of_le, pow-suc, pow-zero}
use native.Mathlib.Numerals.{add-one}
use native.Mathlib.Omega.{arith}
use lib.Dec.{ltb, lit≤}
use borrow.Author.Tests.{lt-ltb, le-ltb}
use Rattle.ground.proofs.Tests.{by_order}
use Rattle.decimals.specs.Decimal.{digit_count_within, digit_count}

-- what f + 1 digits hold
unfoldable pub bound : ℕ → ℕ
bound zero = 10
bound (suc f) = bound f * 10

pub few : (f n : ℕ) → n < 10 → digit_count_within (suc f) n ≡ 1
unfolding digit_count_within
few f n h = ap (λ (b : Bool). cond b 1 (suc (digit_count_within f (n / 10)))) (lt-ltb n 10 h)

pub many : (f n : ℕ) → 10 ≤ n → digit_count_within (suc f) n ≡ suc (digit_count_within f (n / 10))
unfolding digit_count_within
many f n h = ap (λ (b : Bool). cond b 1 (suc (digit_count_within f (n / 10)))) (le-ltb n 10 h)

-- allowing for more digits than there are makes no difference
stable : (f n : ℕ) → n < bound f → digit_count_within f n ≡ digit_count_within (suc f) n
unfolding digit_count_within bound
stable zero n h = sym (few 0 n h)
stable (suc f) n h = ap (λ (k : ℕ). cond (ltb n 10) 1 (suc k)) (stable f (n / 10) ((div-lt_iff_lt-mul (omega arith)).1 h))

pub count-one : (n : ℕ) → n < 10 → digit_count n ≡ 1
count-one n h = few 38 n h

pub count-more : (n : ℕ) → n < 2 ^ 64 → 10 ≤ n → digit_count n ≡ suc (digit_count (n / 10))
unfolding bound
count-more n f h =
    let b : n / 10 < 2 ^ 64 = omega arith in
    many 38 n h ∙ ap suc (stable 38 (n / 10) (lt_of_lt_of_le b (lit≤ tt)))

within : (f n : ℕ) → (1 ≤ digit_count_within f n) × (digit_count_within f n ≤ suc f)
unfolding digit_count_within
within zero n = (omega arith, omega arith)
within (suc f) n =
    let w = within f (n / 10) in
    by_order n 10
    (λ h. let e = few f n h in (omega arith, omega arith))
    (λ h. let e = many f n h in (omega arith, omega arith))

pub count-least : (n : ℕ) → 1 ≤ digit_count n
count-least n = (within 39 n).0

pub count_most : (n : ℕ) → digit_count n ≤ 40
count_most n = (within 39 n).1

pub tens_some : (k : ℕ) → 0 < 10 ^ k
tens_some zero = subst (λ (n : ℕ). 0 < n) (sym (pow-zero 10)) (omega arith)
tens_some (suc k) = let h = tens_some k in let e = pow-suc 10 k in omega arith

-- by the greatest power of ten that is no greater
power-within : (k f n : ℕ) → k ≤ f → 10 ^ k ≤ n → n < 10 * 10 ^ k → suc k ≡ digit_count_within f n
unfolding digit_count_within
power-within zero zero n h low high = refl
power-within zero (suc f) n h low high = let e = pow-zero 10 in sym (few f n (omega arith))
power-within (suc k) zero n h low high = absurd (omega arith)
power-within (suc k) (suc f) n h low high =
    let e : 10 ^ suc k ≡ 10 ^ k * 10 = pow-suc 10 k in
    let p : 0 < 10 ^ k = tens_some k in
    ap suc (power-within k f (n / 10) (omega arith) (omega arith) (omega arith)) ∙ sym (many f n (omega arith))

pub count-power : (k n : ℕ) → k < 20 → 10 ^ k ≤ n → n < 10 * 10 ^ k → k + 1 ≡ digit_count n
count-power k n h low high = add-one k ∙ power-within k 39 n (omega arith) low high
