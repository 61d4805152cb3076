-- Negations, sums and products by sign and size, and that what the lowest bits are lies in the range.
-- Assumes nothing.
use Rattle.std.proofs.Common.{◌≡◌, ℕ, zero, suc, ◌+◌, ◌-◌, ◌*◌, ◌%◌, ◌^◌, ◌<◌, Bool, true, false, not, ◌&&◌, T, ℤ, pos, ◌+ℤ◌, ◌*ℤ◌, neg_ℤ, sym, refl, ap, ◌∙◌, subst, ap₂, mod-lt, mul-zero, zero-mul, arith, pow_pos, le-ltb, lt-ltb, leb-false}
use mathlib.Core.Bool.{beq, false≢true}
use native.Mathlib.Nat.{mod-one}
use lib.IntN.{neg_ℤ-neg_ℤ, neg_ℤ-+ℤ, +ℤ_comm}
use lib.Signed.{le_z, lt_z}
use borrow.Author.Tests.{lt-leb}
use Rattle.ground.proofs.Tests.{by_order}
use Rattle.words.specs.Extension.{signed}
use Rattle.words.proofs.Signs.{signed_of}
use Rattle.overflow.specs.Overflow.{overflows, tells, number}
use Rattle.overflow.specs.Sign.{signed_by}
use Rattle.overflow.proofs.Signs.{held, overflows-by, tells-inside}

negated : (b : Bool) (n : ℕ) → signed_by (not b) n ≡ neg_ℤ (signed_by b n)
negated true n = sym (neg_ℤ-neg_ℤ (pos n))
negated false n = refl

abbrev unlike : Bool → Bool → Bool
unlike a b = not (beq a b)

summed : (a b : Bool) (m n : ℕ) → unlike a b ≡ false → signed_by a (m + n) ≡ signed_by a m +ℤ signed_by b n
summed true true m n e = neg_ℤ-+ℤ (pos m) (pos n)
summed true false m n e = absurd (false≢true (sym e))
summed false true m n e = absurd (false≢true (sym e))
summed false false m n e = refl

-- a product of size 0 has no sign
turned : (n : ℕ) → n ≡ 0 → pos n ≡ neg_ℤ (pos n)
turned n e = ap pos e ∙ sym (ap (λ (k : ℕ). neg_ℤ (pos k)) e)

right-turned : (m n : ℕ) → neg_ℤ (pos (m * n)) ≡ pos m *ℤ neg_ℤ (pos n)
right-turned m zero = sym (turned (m * 0) (mul-zero m))
right-turned m (suc n) = refl

left-turned : (m n : ℕ) → neg_ℤ (pos (m * n)) ≡ neg_ℤ (pos m) *ℤ pos n
left-turned zero n = sym (turned (0 * n) (zero-mul n))
left-turned (suc m) n = refl

both-turned : (m n : ℕ) → pos (m * n) ≡ neg_ℤ (pos m) *ℤ neg_ℤ (pos n)
both-turned zero zero = refl
both-turned zero (suc n) = turned (0 * suc n) (zero-mul (suc n))
both-turned (suc m) zero = turned (suc m * 0) (mul-zero (suc m))
both-turned (suc m) (suc n) = refl

multiplied : (a b : Bool) (m n : ℕ) → signed_by (unlike a b) (m * n) ≡ signed_by a m *ℤ signed_by b n
multiplied true true m n = both-turned m n
multiplied true false m n = left-turned m n
multiplied false true m n = right-turned m n
multiplied false false m n = refl

-- the number that the lowest bits are lies in the range
is_true : (t : Bool) → T t → t ≡ true
is_true true h = refl
is_true false h = absurd h

within_none : (n : ℕ) → overflows 0 (number 0 n) ≡ false
unfolding signed
within_none n = ap (λ (k : ℕ). overflows 0 (signed 0 k)) (mod-one n)

pub within : (w n : ℕ) → overflows w (number w n) ≡ false
within w n =
    by_order 0 w
    (λ h.
    let s = signed_of w (n % 2 ^ w) h (mod-lt n (pow_pos w)) in
    let a : le_z (neg_ℤ (pos (2 ^ (w - 1)))) (number w n) ≡ true = is_true _ s.least.le in
    let b : lt_z (number w n) (pos (2 ^ (w - 1))) ≡ true = is_true _ s.below.lt in
    ap not (ap₂ ◌&&◌ a b))
    (λ h. let e : 0 ≡ w = omega arith in subst (λ (k : ℕ). overflows k (number k n) ≡ false) e (within_none n))

module _ (w : ℕ) (b : Bool) (n : ℕ) where
  inside : held b n < 2 ^ (w - 1) → overflows w (signed_by b n) ≡ false
  inside h = overflows-by w b n ∙ lt-leb (2 ^ (w - 1)) (held b n) h

  pub held-inside : overflows w (signed_by b n) ≡ false → held b n < 2 ^ (w - 1)
  held-inside e = leb-false (2 ^ (w - 1)) (held b n) (sym (overflows-by w b n) ∙ e)

-- a sum of unlike signs lies between the two
between : (w m n : ℕ) → m < 2 ^ (w - 1) → n - 1 < 2 ^ (w - 1) → overflows w (pos m +ℤ neg_ℤ (pos n)) ≡ false
between w m zero h k = inside w false (m + 0) (omega arith)
between w m (suc n) h k =
    by_order m (suc n) (λ j. rw (lt-ltb m (suc n) j) (inside w true (suc (suc n - suc m)) (omega arith)))
    (λ j. rw (le-ltb m (suc n) j) (inside w false (m - suc n) (omega arith)))

unlike-sum : (w : ℕ) (a b : Bool) (m n : ℕ) → unlike a b ≡ true → held a m < 2 ^ (w - 1) → held b n < 2 ^ (w - 1) → overflows w (signed_by a m +ℤ signed_by b n) ≡ false
unlike-sum w true true m n e h k = absurd (false≢true e)
unlike-sum w true false m n e h k = ap (overflows w) (+ℤ_comm (neg_ℤ (pos m)) (pos n)) ∙ between w n m k h
unlike-sum w false true m n e h k = between w m n h k
unlike-sum w false false m n e h k = absurd (false≢true e)

-- what is told of the operands' signs and sizes is told of the operands
module _ (w m : ℕ) (a : Bool) (s : ℕ) (first : signed_by a s ≡ number w m) (r : Bool) where
  pub negation-told : r ≡ tells w (signed_by (not a) s) → r ≡ tells w (neg_ℤ (number w m))
  negation-told e = e ∙ ap (tells w) (negated a s ∙ ap neg_ℤ first)

module _ (w m n : ℕ) (a b : Bool) (s t : ℕ) (first : signed_by a s ≡ number w m) (second : signed_by b t ≡ number w n) where
  pub sum_inside : unlike a b ≡ true → false ≡ tells w (number w m +ℤ number w n)
  sum_inside e =
      tells-inside w (number w m +ℤ number w n)
      (sym (ap₂ (λ (x y : ℤ). overflows w (x +ℤ y)) first second)
      ∙ unlike-sum w a b s t e (held-inside w a s (ap (overflows w) first ∙ within w m)) (held-inside w b t (ap (overflows w) second ∙ within w n)))

  pub sum_told : unlike a b ≡ false → (r : Bool) → r ≡ tells w (signed_by a (s + t)) → r ≡ tells w (number w m +ℤ number w n)
  sum_told e r f = f ∙ ap (tells w) (summed a b s t e ∙ ap₂ ◌+ℤ◌ first second)

  pub product-told : (r : Bool) → r ≡ tells w (signed_by (unlike a b) (s * t)) → r ≡ tells w (number w m *ℤ number w n)
  product-told r f = f ∙ ap (tells w) (multiplied a b s t ∙ ap₂ ◌*ℤ◌ first second)
