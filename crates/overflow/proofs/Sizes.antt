-- Numbers of 128 bits without signs: a pair of words fits, and the words of a sum and of a product.
-- Assumes nothing.
use Rattle.std.proofs.Common.{◌≡◌, ℕ, ◌+◌, ◌*◌, ◌^◌, ◌<◌, ◌≤◌, sym, refl, ap, ◌∙◌, zero-mul, mul-zero, mul-le-mul, arith, None, Some}
use Rattle.words.specs.declared.pair.Pair.{Pair}
use Rattle.words.specs.Pair.{value, grown}
use Rattle.words.proofs.Numbers.{value-fits, too_large, fitting, pair_is, pair-value, grown-fit, grown-over}

-- a pair of words fits
pub fit_self : (p : Pair) → p.low < 2 ^ 64 → p.high < 2 ^ 64 → Some p ≡ grown (value p)
fit_self p l h = ap Some (pair-value p (value p) l refl) ∙ sym (grown-fit (value p) (value-fits p.low p.high l h))

-- a number by its low word, the word over it, and what stands above both
module _ (n low high above : ℕ) (word : low < 2 ^ 64) (is : n ≡ low + (high + above * 2 ^ 64) * 2 ^ 64) where
  pub words-past : 0 < above → None ≡ grown n
  words-past h = sym (grown-over n (too_large n low (high + above * 2 ^ 64) word is (omega arith)))

  pub words-fit : above ≡ 0 → high < 2 ^ 64 → Some (record { low = low; high = high }) ≡ grown n
  words-fit h fits =
      let e : n ≡ low + high * 2 ^ 64 = omega arith in
      ap Some (pair_is n low high word e) ∙ sym (grown-fit n (fitting n low high word e fits))

-- a sum, whose low words carry into the high ones
pub sum-words : (l h m k low high carry over : ℕ) → low + carry * 2 ^ 64 ≡ l + m + 0 → high + over * 2 ^ 64 ≡ h + k + carry
    → l + h * 2 ^ 64 + (m + k * 2 ^ 64) ≡ low + (high + over * 2 ^ 64) * 2 ^ 64
sum-words l h m k low high carry over e f = omega arith

-- the four products of the words of two numbers
products : (a b c d p : ℕ) → (a + b * p) * (c + d * p) ≡ a * c + (b * c + a * d) * p + b * d * (p * p)
products a b c d p = grind arith

pub left-none : (b d : ℕ) → b ≤ 0 → b * d ≡ 0
left-none b d h = let e : b ≡ 0 = omega arith in ap (λ (x : ℕ). x * d) e ∙ zero-mul d

pub right-none : (b d : ℕ) → d ≤ 0 → b * d ≡ 0
right-none b d h = let e : d ≡ 0 = omega arith in ap (λ (x : ℕ). b * x) e ∙ mul-zero b

-- a product one of whose high words is 0: the low product carries into the one of the two others that is not 0
pub product-words : (a b c d low middle high carry over above : ℕ) → b * d ≡ 0 → low + carry * 2 ^ 64 ≡ a * c + 0 → middle + over * 2 ^ 64 ≡ b * c + carry → high + above * 2 ^ 64 ≡ a * d + middle
    → (a + b * 2 ^ 64) * (c + d * 2 ^ 64) ≡ low + (high + (over + above) * 2 ^ 64) * 2 ^ 64
product-words a b c d low middle high carry over above z e f g =
    products a b c d (2 ^ 64) ∙ omega arith

-- of two that are not 0 it is too large
pub product-past : (a b c d : ℕ) → 0 < b → 0 < d → None ≡ grown ((a + b * 2 ^ 64) * (c + d * 2 ^ 64))
product-past a b c d h k = sym (grown-over ((a + b * 2 ^ 64) * (c + d * 2 ^ 64)) (mul-le-mul {n₁ = 2 ^ 64} {m₁ = 2 ^ 64} {n₂ = a + b * 2 ^ 64} {m₂ = c + d * 2 ^ 64} (omega arith) (omega arith)))
