-- A number against a power of two.
-- Assumes nothing.
use Rattle.std.proofs.Common.{◌≡◌, ℕ, ◌+◌, ◌-◌, ◌*◌, ◌/◌, ◌^◌, ◌<◌, ◌≤◌, true, false, ltb, leb, sym, ap, ◌∙◌, subst, lt_of_lt_of_le, div-lt_iff_lt-mul, one-mul, le-div_iff_mul-le, arith, pow_pos, pow_mono, pow-add, le-ltb, lt-ltb, le-leb}
use borrow.Author.Tests.{lt-leb}
use Rattle.ground.proofs.Tests.{by_order}
use Rattle.words.proofs.Numbers.{value-fits}

-- multiples of a word's size are told apart by the high word
pub leb_high : (p x l : ℕ) → l < 2 ^ 64 → leb (p * 2 ^ 64) (l + x * 2 ^ 64) ≡ leb p x
leb_high p x l h =
    by_order x p
    (λ k. let m : l + x * 2 ^ 64 < p * 2 ^ 64 = omega arith in lt-leb _ _ m ∙ sym (lt-leb p x k))
    (λ k. let m : p * 2 ^ 64 ≤ l + x * 2 ^ 64 = omega arith in le-leb _ _ m ∙ sym (le-leb p x k))

pub power_high : (w : ℕ) → 64 ≤ w → 2 ^ w ≡ 2 ^ (w - 64) * 2 ^ 64
power_high w h = let e : w ≡ w - 64 + 64 = omega arith in ap (λ (k : ℕ). 2 ^ k) e ∙ pow-add 2 (w - 64) 64

-- a quotient is not 0 exactly where the divisor is reached
quotient : (p x : ℕ) → 0 < p → ltb 0 (x / p) ≡ leb p x
quotient p x h =
    by_order x p
    (λ k. let q : x / p < 1 = (div-lt_iff_lt-mul h).1 (subst (λ (m : ℕ). x < m) (sym (one-mul p)) k) in le-ltb 0 (x / p) (omega arith) ∙ sym (lt-leb p x k))
    (λ k. lt-ltb 0 (x / p) ((le-div_iff_mul-le h).1 (subst (λ (m : ℕ). m ≤ x) (sym (one-mul p)) k)) ∙ sym (le-leb p x k))

module _ (l h w : ℕ) (l-fits : l < 2 ^ 64) where
  pub reaches-none : h < 2 ^ 64 → 128 ≤ w → false ≡ leb (2 ^ w) (l + h * 2 ^ 64)
  reaches-none h_fits k = sym (lt-leb _ _ (lt_of_lt_of_le (value-fits l h l-fits h_fits) (pow_mono k)))

  pub reaches-high : 64 ≤ w → ltb 0 (h / 2 ^ (w - 64)) ≡ leb (2 ^ w) (l + h * 2 ^ 64)
  reaches-high k =
      quotient (2 ^ (w - 64)) h (pow_pos (w - 64)) ∙ sym (leb_high (2 ^ (w - 64)) h l l-fits)
      ∙ ap (λ (m : ℕ). leb m (l + h * 2 ^ 64)) (sym (power_high w k))

  pub reaches-over : w < 64 → 0 < h → true ≡ leb (2 ^ w) (l + h * 2 ^ 64)
  reaches-over k j =
      let m : 2 ^ w ≤ 2 ^ 64 = pow_mono {i = w} {j = 64} (omega arith) in
      let n : 2 ^ w ≤ l + h * 2 ^ 64 = omega arith in
      sym (le-leb _ _ n)

  pub reaches-low : h ≤ 0 → ltb 0 (l / 2 ^ w) ≡ leb (2 ^ w) (l + h * 2 ^ 64)
  reaches-low k =
      let e : l ≡ l + h * 2 ^ 64 = omega arith in
      quotient (2 ^ w) l (pow_pos w) ∙ ap (λ (m : ℕ). leb (2 ^ w) m) e
