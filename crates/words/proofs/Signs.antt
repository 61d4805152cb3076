-- What sign extension means: read as signed at 128 bits, the result is the signed value at the width.
-- Assumes nothing.
use Rattle.std.proofs.Common.{◌≡◌, ℕ, zero, suc, ◌+◌, ◌-◌, ◌*◌, ◌%◌, ◌^◌, ◌<◌, ◌≤◌, T, leb, ℤ, pos, negsuc, ◌+ℤ◌, ◌-ℤ◌, neg_ℤ, sym, refl, ap, ◌∙◌, subst, mod-eq_of_lt, one-mul, zero-mul, arith, le→leb, lt→ltb, pow_pos, pow_mono, pow-add, le-ltb, lt-ltb, le-leb}
use lib.IntN.{+ℤ_idr, -ℤ-+ℤ_cancel}
use lib.Signed.{lt_z, le_z}
use borrow.Author.Tests.{lt-leb}
use Rattle.ground.proofs.Tests.{by_order}
use Rattle.words.specs.Extension.{signed, SignedOf, filled, extended}
use Rattle.words.proofs.Extends.{extended-wide, extended-positive, extended_negative}

pub minus : (v m : ℕ) → v < m → pos v -ℤ pos m ≡ negsuc (m - v - 1)
minus v zero h = absurd (omega arith)
minus v (suc m) h =
    let e : suc m - suc v ≡ suc m - v - 1 = omega arith in
    rw (lt-ltb v (suc m) h) (ap negsuc e)

neg_is : (m : ℕ) → 0 < m → neg_ℤ (pos m) ≡ negsuc (m - 1)
neg_is zero h = absurd (omega arith)
neg_is (suc m) h = let e : m ≡ suc m - 1 = omega arith in ap negsuc e

-- the two halves of the range
pub signed_low : (w v : ℕ) → v < 2 ^ (w - 1) → signed w v ≡ pos v
unfolding signed
signed_low w v h = rw (lt-ltb v (2 ^ (w - 1)) h)

pub signed_high : (w v : ℕ) → 2 ^ (w - 1) ≤ v → signed w v ≡ pos v -ℤ pos (2 ^ w)
unfolding signed
signed_high w v h = rw (le-ltb v (2 ^ (w - 1)) h)

double : (w : ℕ) → 0 < w → 2 ^ w ≡ 2 ^ (w - 1) * 2
double w h = let e : w ≡ w - 1 + 1 = omega arith in ap (λ (k : ℕ). 2 ^ k) e ∙ pow-add 2 (w - 1) 1

-- what is left of the whole range above the low bits
left : (n p m : ℕ) → n < p → p ≤ m → m - (n + (m - p)) - 1 ≡ p - n - 1
left n p m h k = omega arith

module _ (w n : ℕ) (nonzero : 0 < w) (fits : n < 2 ^ w) where
  pub signed_of : SignedOf w n (signed w n)
  signed_of =
      by_order n (2 ^ (w - 1))
      (λ h. record {
        times = 0;
        congruent = ap (λ (z : ℤ). z +ℤ pos (0 * 2 ^ w)) (signed_low w n h) ∙ ap (λ (k : ℕ). pos n +ℤ pos k) (zero-mul (2 ^ w)) ∙ +ℤ_idr (pos n);
        least =
            let e = neg_is (2 ^ (w - 1)) (pow_pos (w - 1)) in
            record { le = subst (λ (z : ℤ). T (le_z (neg_ℤ (pos (2 ^ (w - 1)))) z)) (sym (signed_low w n h)) (subst (λ (z : ℤ). T (le_z z (pos n))) (sym e) tt) };
        below = record { lt = subst (λ (z : ℤ). T (lt_z z (pos (2 ^ (w - 1))))) (sym (signed_low w n h)) (lt→ltb n (2 ^ (w - 1)) h) };
      })
      (λ h.
      let s = signed_high w n h in
      let m = s ∙ minus n (2 ^ w) fits in
      let e = neg_is (2 ^ (w - 1)) (pow_pos (w - 1)) in
      let d = double w nonzero in
      let k : 2 ^ w - n - 1 ≤ 2 ^ (w - 1) - 1 = omega arith in
      record {
        times = 1;
        congruent = ap (λ (z : ℤ). z +ℤ pos (1 * 2 ^ w)) s ∙ ap (λ (k : ℕ). pos n -ℤ pos (2 ^ w) +ℤ pos k) (one-mul (2 ^ w)) ∙ -ℤ-+ℤ_cancel (pos n) (pos (2 ^ w));
        least =
            record { le = subst (λ (z : ℤ). T (le_z (neg_ℤ (pos (2 ^ (w - 1)))) z)) (sym m) (subst (λ (z : ℤ). T (le_z z (negsuc (2 ^ w - n - 1)))) (sym e) (le→leb _ _ k)) };
        below = record { lt = subst (λ (z : ℤ). T (lt_z z (pos (2 ^ (w - 1))))) (sym m) tt };
      })

  low_bits : n % 2 ^ w ≡ n
  low_bits = mod-eq_of_lt fits

  module _ (short : w < 128) where
    half_le : 2 ^ (w - 1) ≤ 2 ^ 127
    half_le = pow_mono {i = w - 1} {j = 127} (omega arith)

    whole_le : 2 ^ w ≤ 2 ^ 127
    whole_le = pow_mono {i = w} {j = 127} (omega arith)

    kept_low : n < 2 ^ (w - 1) → signed 128 (extended w n) ≡ signed w n
    kept_low h =
        let e : n ≡ extended w n = extended-positive w n (ap (λ (k : ℕ). leb (2 ^ (w - 1)) k) low_bits ∙ lt-leb (2 ^ (w - 1)) n h) in
        ap (λ (k : ℕ). signed 128 k) (sym e) ∙ signed_low 128 n (lt_le_lt n (2 ^ (w - 1)) (2 ^ 127) h half_le) ∙ sym (signed_low w n h)
      where
        lt_le_lt : (a b c : ℕ) → a < b → b ≤ c → a < c
        lt_le_lt a b c p q = omega arith

    kept_high : 2 ^ (w - 1) ≤ n → signed 128 (extended w n) ≡ signed w n
    kept_high h =
        let e : filled 128 w n ≡ extended w n = extended_negative w n nonzero short (ap (λ (k : ℕ). leb (2 ^ (w - 1)) k) low_bits ∙ le-leb (2 ^ (w - 1)) n h) in
        let f : n + (2 ^ 128 - 2 ^ w) ≡ extended w n = ap (λ (k : ℕ). k + (2 ^ 128 - 2 ^ w)) (sym low_bits) ∙ e in
        ap (λ (k : ℕ). signed 128 k) (sym f)
        ∙ signed_high 128 (n + (2 ^ 128 - 2 ^ w)) (tops n (2 ^ w) (2 ^ 127) (2 ^ 128) whole_le refl)
        ∙ minus (n + (2 ^ 128 - 2 ^ w)) (2 ^ 128) (inside n (2 ^ w) (2 ^ 128) fits (pow_mono {i = w} {j = 128} (omega arith)))
        ∙ ap negsuc (left n (2 ^ w) (2 ^ 128) fits (pow_mono {i = w} {j = 128} (omega arith)))
        ∙ sym (minus n (2 ^ w) fits) ∙ sym (signed_high w n h)
      where
        tops : (n p q m : ℕ) → p ≤ q → m ≡ q * 2 → q ≤ n + (m - p)
        tops n p q m h e = omega arith

        inside : (n p m : ℕ) → n < p → p ≤ m → n + (m - p) < m
        inside n p m h k = omega arith

  pub sign_kept : w ≤ 128 → signed 128 (extended w n) ≡ signed w n
  sign_kept h =
      by_order w 128 (λ k. by_order n (2 ^ (w - 1)) (kept_low k) (kept_high k))
      (λ k.
      let e : w ≡ 128 = omega arith in
      ap (λ (x : ℕ). signed 128 x) (sym (extended-wide w n k)) ∙ ap (λ (x : ℕ). signed x n) (sym e))

-- for a number below 2 ^ w the pair, read as signed, is congruent to it modulo 2 ^ w and within the signed range of the width
pub extension-signed : (w n : ℕ) → 0 < w → w ≤ 128 → n < 2 ^ w → SignedOf w n (signed 128 (extended w n))
extension-signed w n nonzero h fits = subst (SignedOf w n) (sym (sign_kept w n nonzero fits h)) (signed_of w n nonzero fits)
