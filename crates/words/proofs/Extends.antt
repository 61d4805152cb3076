-- Sign extension: in one word, and in the pair.
-- Assumes nothing.
use Rattle.std.proofs.Common.{◌≡◌, ℕ, ◌+◌, ◌-◌, ◌*◌, ◌/◌, ◌%◌, ◌^◌, ◌<◌, ◌≤◌, true, false, ◌&&◌, ltb, leb, sym, refl, ap, ◌∙◌, subst, ap₂, mod-lt, add-mul, add_comm, one-mul, arith, pow_pos, pow_mono, pow-add, shl_exact, le-ltb, lt-ltb, le-leb, None, Some}
use lib.Bits.{bit_and, and_mask}
use lib.Pow.{mod-pow-add, mod-mod-pow}
use borrow.Author.Tests.{lt-leb}
use Rattle.ground.proofs.Tests.{by_test, and-false}
use Rattle.words.specs.Extension.{negative, filled, extended, extended_word}
use Rattle.words.proofs.Powers.{leb_high, power_high}

-- the code's one bit
pub unit-is : (bit : ℕ) → bit < 64 → 1 * 2 ^ bit % 2 ^ 64 ≡ 2 ^ bit
unit-is bit h = shl_exact {a = 1} 1 bit 64 (omega arith) (omega arith) ∙ one-mul (2 ^ bit)

module _ (bit n : ℕ) where
  bits-split : n % 2 ^ (bit + 1) ≡ n / 2 ^ bit % 2 * 2 ^ bit + n % 2 ^ bit
  bits-split = ap (λ (k : ℕ). n % 2 ^ k) (add_comm bit 1) ∙ mod-pow-add n 1 bit

  below-small : n % 2 ^ bit < 2 ^ bit
  below-small = mod-lt n (pow_pos bit)

  half_of : 2 ^ (bit + 1 - 1) ≡ 2 ^ bit
  half_of = let e : bit + 1 - 1 ≡ bit = omega arith in ap (λ (k : ℕ). 2 ^ k) e

  bit-clear : n / 2 ^ bit % 2 ≡ 0 → negative (bit + 1) n ≡ false
  bit-clear h =
      let s : n % 2 ^ (bit + 1) ≡ n % 2 ^ bit = bits-split ∙ (rw h (omega arith)) in
      let b = below-small in
      let e = half_of in
      lt-leb (2 ^ (bit + 1 - 1)) (n % 2 ^ (bit + 1)) (omega arith)

  module _ (h : n / 2 ^ bit % 2 ≡ 1) where
    low-set : n % 2 ^ (bit + 1) ≡ 2 ^ bit + n % 2 ^ bit
    low-set = bits-split ∙ (rw h (omega arith))

    bit-set : negative (bit + 1) n ≡ true
    bit-set = let s = low-set in let e = half_of in le-leb (2 ^ (bit + 1 - 1)) (n % 2 ^ (bit + 1)) (omega arith)

    ones_above : bit < 64 → filled 64 (bit + 1) n ≡ 18446744073709551615 - (2 ^ bit - 1) + n % 2 ^ bit
    ones_above k =
        let m : 2 ^ (bit + 1) ≤ 2 ^ 64 = pow_mono {i = bit + 1} {j = 64} (omega arith) in
        let d : 2 ^ (bit + 1) ≡ 2 ^ bit * 2 = pow-add 2 bit 1 in
        let p : 0 < 2 ^ bit = pow_pos bit in
        let s = low-set in
        omega arith

  pub word-clear : n / 2 ^ bit % 2 ≡ 0 → None ≡ extended_word bit n
  unfolding extended_word
  word-clear h = rw (bit-clear h)

  word_set : bit < 64 → (n / 2 ^ bit % 2 ≡ 0 → ⊥) → Some (18446744073709551615 - (2 ^ bit - 1) + n % 2 ^ bit) ≡ extended_word bit n
  unfolding extended_word
  word_set k h =
      let o : n / 2 ^ bit % 2 ≡ 1 = omega arith in
      rw (bit-set o) (ap Some (sym (ones_above o k)))

  pub was-positive : extended_word bit n ≡ None → negative (bit + 1) n ≡ false
  unfolding extended_word
  was-positive e =
      by_test (negative (bit + 1) n)
      (λ t. let f : extended_word bit n ≡ Some (filled 64 (bit + 1) n) = rw t in let z : ◌≡◌ {A = ℕ} 0 1 = cc in absurd (omega arith))
      (λ t. t)

  pub was-negative : (f : ℕ) → extended_word bit n ≡ Some f → (negative (bit + 1) n ≡ true) × (f ≡ filled 64 (bit + 1) n)
  unfolding extended_word
  was-negative f e =
      by_test (negative (bit + 1) n)
      (λ t. let g : extended_word bit n ≡ Some (filled 64 (bit + 1) n) = rw t in (t, (cc)))
      (λ t. let g : extended_word bit n ≡ None = rw t in let z : ◌≡◌ {A = ℕ} 0 1 = cc in absurd (omega arith))

-- the same, in the code's words: a shifted one, and a mask
module _ (bit n : ℕ) (h : bit < 64) where
  abbrev unit : ℕ
  unit = 1 * 2 ^ bit % 2 ^ 64

  masked : bit_and n (unit - 1) ≡ n % 2 ^ bit
  masked = ap (λ (u : ℕ). bit_and n (u - 1)) (unit-is bit h) ∙ and_mask n bit

  pub unit-set : (n / 2 ^ bit % 2 ≡ 0 → ⊥) → Some (18446744073709551615 - (unit - 1) + bit_and n (unit - 1)) ≡ extended_word bit n
  unit-set k =
      ap₂ (λ (u m : ℕ). Some (18446744073709551615 - (u - 1) + m)) (unit-is bit h) masked ∙ word_set bit n h k

-- the definition by its cases
pub extended-zero : (n : ℕ) → n ≡ extended 0 n
unfolding extended
extended-zero n = refl

pub extended-wide : (w n : ℕ) → 128 ≤ w → n ≡ extended w n
unfolding extended
extended-wide w n h = rw (le-ltb w 128 h) (rw (and-false (ltb 0 w)))

pub extended-positive : (w n : ℕ) → negative w n ≡ false → n ≡ extended w n
unfolding extended
extended-positive w n h = rw h (rw (and-false (ltb 0 w && ltb w 128)))

pub extended_negative : (w n : ℕ) → 0 < w → w < 128 → negative w n ≡ true → filled 128 w n ≡ extended w n
unfolding extended
extended_negative w n h k e = rw (lt-ltb 0 w h, lt-ltb w 128 k, e)

-- a number l + h * 2 ^ 64, of whose words the low one holds the width, or the high one does
over_by : (a p l k m : ℕ) → p ≤ l → m ≡ k + l → (a + (l - p)) + k ≡ a + (m - p)
over_by a p l k m h e = omega arith

above-by : (l x p y q m : ℕ) → q ≡ p * 2 ^ 64 → m ≡ q + y * 2 ^ 64 → l + (x + y) * 2 ^ 64 ≡ l + x * 2 ^ 64 + (m - q)
above-by l x p y q m e f = omega arith

module _ (l h w : ℕ) (l-fits : l < 2 ^ 64) where
  abbrev whole : ℕ
  whole = l + h * 2 ^ 64

  module _ (nonzero : 0 < w) (short : w ≤ 64) where
    in_low : whole % 2 ^ w ≡ l % 2 ^ w
    in_low =
        let e : 64 - w + w ≡ 64 = omega arith in
        let m : whole % 2 ^ 64 ≡ l = omega arith in
        sym (mod-mod-pow whole (64 - w) w) ∙ ap (λ (k : ℕ). whole % 2 ^ k % 2 ^ w) e ∙ ap (λ (k : ℕ). k % 2 ^ w) m

    low-sign : negative w whole ≡ negative w l
    low-sign = ap (λ (k : ℕ). leb (2 ^ (w - 1)) k) in_low

    low-filled : filled 64 w l + 18446744073709551615 * 2 ^ 64 ≡ filled 128 w whole
    low-filled =
        over_by (l % 2 ^ w) (2 ^ w) (2 ^ 64) (18446744073709551615 * 2 ^ 64) (2 ^ 128) (pow_mono {i = w} {j = 64} short) refl
        ∙ ap (λ (k : ℕ). k + (2 ^ 128 - 2 ^ w)) (sym in_low)

    width_low : w - 1 + 1 ≡ w
    width_low = omega arith

    pub extends-low-positive : extended_word (w - 1) l ≡ None → whole ≡ extended w whole
    extends-low-positive e =
        extended-positive w whole (low-sign ∙ subst (λ (k : ℕ). negative k l ≡ false) width_low (was-positive (w - 1) l e))

    pub extends-low-negative : (f : ℕ) → extended_word (w - 1) l ≡ Some f → f + 18446744073709551615 * 2 ^ 64 ≡ extended w whole
    extends-low-negative f e =
        let n = was-negative (w - 1) l f e in
        ap (λ (k : ℕ). k + 18446744073709551615 * 2 ^ 64) (n.1 ∙ ap (λ (k : ℕ). filled 64 k l) width_low) ∙ low-filled
        ∙ extended_negative w whole nonzero (omega arith) (low-sign ∙ subst (λ (k : ℕ). negative k l ≡ true) width_low n.0)

  module _ (long : 64 < w) (short : w < 128) where
    in_high : whole % 2 ^ w ≡ l + h % 2 ^ (w - 64) * 2 ^ 64
    in_high =
        let e : w ≡ w - 64 + 64 = omega arith in
        let m : whole % 2 ^ 64 ≡ l = omega arith in
        let q : whole / 2 ^ 64 ≡ h = omega arith in
        ap (λ (k : ℕ). whole % 2 ^ k) e ∙ mod-pow-add whole (w - 64) 64
        ∙ ap₂ (λ (x y : ℕ). x % 2 ^ (w - 64) * 2 ^ 64 + y) q m ∙ add_comm (h % 2 ^ (w - 64) * 2 ^ 64) l

    high-sign : negative w whole ≡ negative (w - 64) h
    high-sign =
        let e : w - 1 - 64 ≡ w - 64 - 1 = omega arith in
        ap₂ leb (power_high (w - 1) (omega arith) ∙ ap (λ (k : ℕ). 2 ^ k * 2 ^ 64) e) in_high
        ∙ leb_high (2 ^ (w - 64 - 1)) (h % 2 ^ (w - 64)) l l-fits

    high-filled : l + filled 64 (w - 64) h * 2 ^ 64 ≡ filled 128 w whole
    high-filled =
        let p : 2 ^ (w - 64) ≤ 2 ^ 64 = pow_mono {i = w - 64} {j = 64} (omega arith) in
        let y : 2 ^ 64 ≡ 2 ^ (w - 64) + (2 ^ 64 - 2 ^ (w - 64)) = omega arith in
        let m : 2 ^ 128 ≡ 2 ^ w + (2 ^ 64 - 2 ^ (w - 64)) * 2 ^ 64 =
        ap (λ (k : ℕ). k * 2 ^ 64) y ∙ add-mul (2 ^ (w - 64)) (2 ^ 64 - 2 ^ (w - 64)) (2 ^ 64)
        ∙ ap (λ (k : ℕ). k + (2 ^ 64 - 2 ^ (w - 64)) * 2 ^ 64) (sym (power_high w (omega arith))) in
        above-by l (h % 2 ^ (w - 64)) (2 ^ (w - 64)) (2 ^ 64 - 2 ^ (w - 64)) (2 ^ w) (2 ^ 128) (power_high w (omega arith)) m
        ∙ ap (λ (k : ℕ). k + (2 ^ 128 - 2 ^ w)) (sym in_high)

    width-high : w - 65 + 1 ≡ w - 64
    width-high = omega arith

    pub extends-high-positive : extended_word (w - 65) h ≡ None → whole ≡ extended w whole
    extends-high-positive e =
        extended-positive w whole (high-sign ∙ subst (λ (k : ℕ). negative k h ≡ false) width-high (was-positive (w - 65) h e))

    pub extends-high-negative : (f : ℕ) → extended_word (w - 65) h ≡ Some f → l + f * 2 ^ 64 ≡ extended w whole
    extends-high-negative f e =
        let n = was-negative (w - 65) h f e in
        ap (λ (k : ℕ). l + k * 2 ^ 64) (n.1 ∙ ap (λ (k : ℕ). filled 64 k h) width-high) ∙ high-filled
        ∙ extended_negative w whole (omega arith) short (high-sign ∙ subst (λ (k : ℕ). negative k h ≡ true) width-high n.0)
