-- What the decimal text means: read as a run of digits it is the number again.
-- Assumes nothing.
use mathlib.Core.Path.{◌≡◌, refl, sym, ap, ap₂, ◌∙◌, subst}
use mathlib.Core.List.{List, [], ◌∷◌, ◌++◌}
use Prim.Native.Nat.{ℕ, zero, suc, ◌+◌, ◌-◌, ◌*◌, ◌/◌, ◌%◌, ◌^◌, ◌<◌}
use native.Mathlib.Nat.{div-lt_iff_lt-mul, lt_of_lt_of_le, mod-eq_of_lt, mod-one, pow-suc, pow-zero}
use native.Mathlib.Omega.{arith}
use lib.Arith.{mod-mul}
use lib.Dec.{lit≤}
use Rattle.ground.proofs.Tests.{by_order}
use Rattle.words.specs.Radix.{worth}
use Rattle.words.specs.Run.{from, number}
use Rattle.words.proofs.Worths.{a-digit}
use Rattle.decimals.specs.Decimal.{last_digits, digit_count_within, digit_count, decimal}
use Rattle.decimals.proofs.Counts.{bound, few, many, tens_some}

from_last : (base n b : ℕ) (s : List ℕ) → from base n (s ++ (b ∷ [])) ≡ from base n s * base + worth b
unfolding from
from_last base n b [] = refl
from_last base n b (c ∷ s) = from_last base (n * base + worth c) b s

digit-is : (d : ℕ) → d < 10 → worth (48 + d) ≡ d
digit-is d h = let e : 48 + d - 48 ≡ d = omega arith in sym (a-digit (48 + d) (omega arith) (omega arith)) ∙ e

digits_number : (k n : ℕ) → number 10 (last_digits k n) ≡ n % 10 ^ k
unfolding last_digits from
digits_number zero n = sym (ap (λ (m : ℕ). n % m) (pow-zero 10) ∙ mod-one n)
digits_number (suc k) n =
    from_last 10 0 (48 + n % 10) (last_digits k (n / 10))
    ∙ ap₂ (λ (x y : ℕ). x * 10 + y) (digits_number k (n / 10)) (digit-is (n % 10) (omega arith))
    ∙ sym (mod-mul n {m = 10 ^ k} {c = 10} (tens_some k) (omega arith)) ∙ ap (λ (m : ℕ). n % m) (sym (pow-suc 10 k))

-- the digits that are counted hold the number
holds : (f n : ℕ) → n < bound f → n < 10 ^ digit_count_within f n
unfolding digit_count_within bound
holds zero n h = h
holds (suc f) n h =
    by_order n 10
    (λ k. subst (λ (c : ℕ). n < 10 ^ c) (sym (few f n k)) k)
    (λ k.
    let q = holds f (n / 10) ((div-lt_iff_lt-mul (omega arith)).1 h) in
    let e = pow-suc 10 (digit_count_within f (n / 10)) in
    subst (λ (c : ℕ). n < 10 ^ c) (sym (many f n k)) (omega arith))

pub decimal-number : (n : ℕ) → n < 2 ^ 128 → number 10 (decimal n) ≡ n
unfolding decimal bound
decimal-number n h = digits_number (digit_count n) n ∙ mod-eq_of_lt (holds 39 n (lt_of_lt_of_le h (lit≤ tt)))
