-- A run of digits, one after the other: what is left of it decides as the whole did.
-- Assumes nothing.
use Rattle.std.proofs.Common.{◌≡◌, ℕ, ◌+◌, ◌*◌, ◌^◌, ◌<◌, ◌≤◌, cond, ◌&&◌, ltb, List, [], ◌∷◌, length, get_or, drop, sym, refl, ap, ◌∙◌, subst, le_trans, mul-le-mul_left, mul-one, arith, lit<, drop_of_length-le, le-ltb, lt-ltb, Err, None, Ok, Option, Result, Some}
use Rattle.ground.specs.Lists.{all}
use Rattle.ground.proofs.Lists.{at_place}
use Rattle.ground.proofs.Tests.{and-false}
use Rattle.refusals.specs.declared.Refusal.TheVariants.{ParseIntError}
use Rattle.words.specs.declared.digits.Radix.{Radix}
use Rattle.words.specs.declared.pair.Pair.{Pair}
use Rattle.words.specs.Pair.{value, pair_of, grown}
use Rattle.words.specs.Radix.{base_of, worth}
use Rattle.words.specs.Run.{from, digits, parsed}
use Rattle.words.proofs.Numbers.{too_far, fit-value, fit-fits, fit_words}
use Rattle.words.proofs.Carries.{base_large}
use Rattle.refusals.specs.declared.Refusal.{Refusal}

-- the answer for a run after one that stood for n
pub after : Radix → ℕ → List ℕ → Result Pair Refusal
after r n s = cond (digits r s && ltb (from (base_of r) n s) (2 ^ 128)) (Ok (pair_of (from (base_of r) n s))) (Err ParseIntError)

-- a longer run stands for no less
grows : (base n : ℕ) → 2 ≤ base → n ≤ n * base
grows base n h = subst (λ (m : ℕ). m ≤ n * base) (mul-one n) (mul-le-mul_left n (omega arith))

from_le : (base : ℕ) → 2 ≤ base → (n : ℕ) (s : List ℕ) → n ≤ from base n s
unfolding from
from_le base h n [] = omega arith
from_le base h n (b ∷ bs) = le_trans {m = n * base + worth b} (omega (arith, grows base n h)) (from_le base h (n * base + worth b) bs)

-- the number so far, in words of its own
pub record Sofar (r : Radix) (s : List ℕ) (p : Pair) (i : ℕ) : Type 0 where
  pub within : i ≤ length s
  pub fits : value p < 2 ^ 128
  pub words : p ≡ pair_of (value p)
  pub rest : after r (value p) (drop i s) ≡ parsed r s

parsed-after : (r : Radix) (s : List ℕ) → 0 < length s → after r 0 s ≡ parsed r s
unfolding after parsed
parsed-after r [] h = absurd (omega arith)
parsed-after r (b ∷ bs) h = refl

pub parsed-empty : (r : Radix) (s : List ℕ) → length s ≡ 0 → Err ParseIntError ≡ parsed r s
unfolding parsed
parsed-empty r [] h = refl
parsed-empty r (b ∷ bs) h = absurd (omega arith)

pub sofar-start : (r : Radix) (s : List ℕ) (p : Pair) → (length s ≡ 0 → ⊥) → p ≡ pair_of 0 → Sofar r s p 0
sofar-start r s p h e =
    subst (λ (q : Pair). Sofar r s q 0) (sym e)
    (record { within = omega arith; fits = lit< tt; words = refl; rest = parsed-after r s (omega arith) })

-- the three ways that one byte can go
after_none : (r : Radix) (n b : ℕ) (bs : List ℕ) → base_of r ≤ worth b → after r n (b ∷ bs) ≡ Err ParseIntError
unfolding after all
after_none r n b bs h = rw (le-ltb (worth b) (base_of r) h)

after-over : (r : Radix) (n b : ℕ) (bs : List ℕ) → 2 ^ 128 ≤ n * base_of r + worth b → after r n (b ∷ bs) ≡ Err ParseIntError
unfolding after from
after-over r n b bs h =
    rw (le-ltb _ (2 ^ 128) (le_trans h (from_le (base_of r) (base_large r) (n * base_of r + worth b) bs)))
    (rw (and-false (digits r (b ∷ bs))))

after_more : (r : Radix) (n b : ℕ) (bs : List ℕ) → worth b < base_of r → after r n (b ∷ bs) ≡ after r (n * base_of r + worth b) bs
unfolding after from all
after_more r n b bs h = rw (lt-ltb (worth b) (base_of r) h)

module _ (r : Radix) (s : List ℕ) (p : Pair) (i d base : ℕ) (sofar : Sofar r s p i) (less : i < length s) (is : d ≡ worth (get_or s i 0)) (of : base ≡ base_of r) where
  open_byte : after r (value p) (get_or s i 0 ∷ drop (i + 1) s) ≡ parsed r s
  open_byte = subst (λ (l : List ℕ). after r (value p) l ≡ parsed r s) (at_place s i less) sofar.rest

  pub sofar-none : base ≤ d → Err ParseIntError ≡ parsed r s
  sofar-none h = sym (after_none r (value p) (get_or s i 0) (drop (i + 1) s) (omega arith)) ∙ open_byte

  module _ (g : Option Pair) (grew : g ≡ grown (value p * base_of r + d)) where
    pub sofar-over : g ≡ None → Err ParseIntError ≡ parsed r s
    sofar-over e = sym (after-over r (value p) (get_or s i 0) (drop (i + 1) s) (subst (λ (x : ℕ). 2 ^ 128 ≤ value p * base_of r + x) is (too_far (value p * base_of r + d) (sym grew ∙ e)))) ∙ open_byte

    pub sofar-next : (next : Pair) → g ≡ Some next → d < base → Sofar r s next (i + 1)
    sofar-next next e h = record {
      within = omega arith;
      fits = fit-fits _ next (sym grew ∙ e);
      words = fit_words _ next (sym grew ∙ e);
      rest =
          ap (λ (m : ℕ). after r m (drop (i + 1) s)) (fit-value (value p * base_of r + d) next (sym grew ∙ e) ∙ ap (λ (x : ℕ). value p * base_of r + x) is)
          ∙ sym (after_more r (value p) (get_or s i 0) (drop (i + 1) s) (omega arith)) ∙ open_byte;
    }

pub sofar-end : (r : Radix) (s : List ℕ) (p : Pair) (i : ℕ) → Sofar r s p i → length s ≤ i → Ok p ≡ parsed r s
unfolding after from all
sofar-end r s p i h past =
    ap Ok h.words
    ∙ sym (rw (lt-ltb (value p) (2 ^ 128) h.fits))
    ∙ subst (λ (t : List ℕ). after r (value p) t ≡ parsed r s) (drop_of_length-le s past) h.rest
