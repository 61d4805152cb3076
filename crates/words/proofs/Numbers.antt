-- Pairs and the numbers that they are. `omega` takes no number of more than 38 digits, and 2 ^ 128 has 39: what is asked of
-- 2 ^ 128 goes by the quotient by 2 ^ 64.
-- Assumes nothing.
use Rattle.std.proofs.Common.{◌≡◌, ℕ, ◌+◌, ◌*◌, ◌/◌, ◌%◌, ◌^◌, ◌<◌, ◌≤◌, Bool, cond, sym, refl, ap, ◌∙◌, subst, ap₂, div-lt_iff_lt-mul, le-div_iff_mul-le, arith, le-ltb, lt-ltb, None, Some}
use Rattle.ground.proofs.Tests.{by_order}
use Rattle.words.specs.declared.pair.Pair.{Pair}
use Rattle.words.specs.Pair.{value, pair_of, grown}

-- the words of a number, where the low one is a word
module _ (n low high : ℕ) (word : low < 2 ^ 64) (is : n ≡ low + high * 2 ^ 64) where
  pub low_word : low ≡ n % 2 ^ 64
  low_word = omega arith

  pub high_word : high ≡ n / 2 ^ 64
  high_word = omega arith

  pub too_large : 2 ^ 64 ≤ high → 2 ^ 128 ≤ n
  too_large h = (le-div_iff_mul-le {k = 2 ^ 64} (omega arith)).0 (subst (λ (x : ℕ). 2 ^ 64 ≤ x) high_word h)

  pub fitting : high < 2 ^ 64 → n < 2 ^ 128
  fitting h = (div-lt_iff_lt-mul {k = 2 ^ 64} (omega arith)).0 (subst (λ (x : ℕ). x < 2 ^ 64) high_word h)

  pub pair_is : record { low = low; high = high } ≡ pair_of n
  pair_is = ap₂ (λ (x y : ℕ). record { low = x; high = y }) low_word high_word

pub grown-fit : (n : ℕ) → n < 2 ^ 128 → grown n ≡ Some (pair_of n)
unfolding grown
grown-fit n h = ap (λ (b : Bool). cond b (Some (pair_of n)) None) (lt-ltb n (2 ^ 128) h)

pub grown-over : (n : ℕ) → 2 ^ 128 ≤ n → grown n ≡ None
unfolding grown
grown-over n h = ap (λ (b : Bool). cond b (Some (pair_of n)) None) (le-ltb n (2 ^ 128) h)

pub value-pair : (n : ℕ) → value (pair_of n) ≡ n
value-pair n = omega arith

-- back from the answer to the number
pub too_far : (n : ℕ) → grown n ≡ None → 2 ^ 128 ≤ n
too_far n e =
    by_order n (2 ^ 128) (λ h. let f = grown-fit n h in let z : ◌≡◌ {A = ℕ} 0 1 = cc in absurd (omega arith)) (λ h. h)

fit-pair : (n : ℕ) (p : Pair) → grown n ≡ Some p → (n < 2 ^ 128) × (p ≡ pair_of n)
fit-pair n p e =
    by_order n (2 ^ 128) (λ h. let f = grown-fit n h in (h, (cc)))
    (λ h. let f = grown-over n h in let z : ◌≡◌ {A = ℕ} 0 1 = cc in absurd (omega arith))

pub fit-value : (n : ℕ) (p : Pair) → grown n ≡ Some p → value p ≡ n
fit-value n p e = ap value (fit-pair n p e).1 ∙ value-pair n

pub fit-fits : (n : ℕ) (p : Pair) → grown n ≡ Some p → value p < 2 ^ 128
fit-fits n p e = subst (λ (m : ℕ). m < 2 ^ 128) (sym (fit-value n p e)) (fit-pair n p e).0

pub fit_words : (n : ℕ) (p : Pair) → grown n ≡ Some p → p ≡ pair_of (value p)
fit_words n p e = (fit-pair n p e).1 ∙ ap pair_of (sym (fit-value n p e))

-- a pair of words is below 2 ^ 128, and is the pair of its number
pub value-fits : (low high : ℕ) → low < 2 ^ 64 → high < 2 ^ 64 → low + high * 2 ^ 64 < 2 ^ 128
value-fits low high l h = fitting (low + high * 2 ^ 64) low high l refl h

-- a pair of words that is a number is that number's pair
pub pair-value : (p : Pair) (n : ℕ) → p.low < 2 ^ 64 → value p ≡ n → p ≡ pair_of n
pair-value p n h e = pair_is n p.low p.high h (sym e)
