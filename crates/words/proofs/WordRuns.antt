-- A run so short that one word holds it, whichever its digits are: the number so far is below the base to the digits read.
-- Assumes nothing.
use Rattle.std.proofs.Common.{◌≡◌, ℕ, ◌+◌, ◌*◌, ◌^◌, ◌<◌, ◌≤◌, List, length, get_or, sym, refl, ap, ◌∙◌, subst, le_trans, lt_of_lt_of_le, pow-suc, arith, Err, Ok, Some}
use native.Mathlib.Nat.{pow-zero, pow-le-pow_right}
use lib.Arith.{digits_lt}
use Rattle.refusals.specs.declared.Refusal.TheVariants.{ParseIntError}
use Rattle.words.specs.declared.digits.Radix.{Radix}
use Rattle.words.specs.declared.pair.Pair.{Pair}
use Rattle.words.specs.Pair.{value}
use Rattle.words.specs.Radix.{base_of, worth}
use Rattle.words.specs.Run.{parsed}
use Rattle.words.proofs.Carries.{base_large}
use Rattle.words.proofs.Numbers.{fitting, pair_is, grown-fit}
use Rattle.words.proofs.Runs.{Sofar, sofar-start, sofar-none, sofar-next, sofar-end}

-- fewer digits fit where more do
pub fewer : (r : Radix) (few many : ℕ) → few ≤ many → base_of r ^ many ≤ 2 ^ 64 → base_of r ^ few ≤ 2 ^ 64
fewer r few many h k = le_trans (pow-le-pow_right (omega (arith, base_large r)) h) k

abbrev pub word : ℕ → Pair
word n = record { low = n; high = 0 }

pub record Short (r : Radix) (s : List ℕ) (n i : ℕ) : Type 0 where
  pub below : n < base_of r ^ i
  pub sofar : Sofar r s (word n) i

pub short-start : (r : Radix) (s : List ℕ) → 0 < length s → Short r s 0 0
short-start r s h = record { below = omega (arith, pow-zero (base_of r)); sofar = sofar-start r s (word 0) (λ e. omega arith) refl }

module _ (r : Radix) (s : List ℕ) (n i d base : ℕ) (short : Short r s n i) (less : i < length s) (is : d ≡ worth (get_or s i 0)) (of : base ≡ base_of r) where
  pub short_none : base ≤ d → Err ParseIntError ≡ parsed r s
  short_none = sofar-none r s (word n) i d base short.sofar less is of

  module _ (h : d < base) where
    next-below : n * base + d < base_of r ^ (i + 1)
    next-below = subst (λ (b : ℕ). n * b + d < base_of r ^ (i + 1)) (sym of)
        (subst (λ (p : ℕ). n * base_of r + d < p) (sym (pow-suc (base_of r) i) ∙ ap (λ (k : ℕ). base_of r ^ k) (omega arith))
        (digits_lt short.below (omega arith)))

    module _ (fits : base_of r ^ length s ≤ 2 ^ 64) where
      pub next_fits : n * base + d < 2 ^ 64
      next_fits = lt_of_lt_of_le next-below (fewer r (i + 1) (length s) (omega arith) fits)

      next-is : value (word n) * base_of r + d ≡ n * base + d + 0 * 2 ^ 64
      next-is =
          let v : value (word n) ≡ n = omega arith in
          ap (λ (m : ℕ). m * base_of r + d) v ∙ ap (λ (b : ℕ). n * b + d) (sym of) ∙ omega arith

      pub short-next : Short r s (n * base + d) (i + 1)
      short-next = record {
        below = next-below;
        sofar =
            sofar-next r s (word n) i d base short.sofar less is of (Some (word (n * base + d)))
            (ap Some (pair_is _ (n * base + d) 0 next_fits next-is) ∙ sym (grown-fit _ (fitting _ (n * base + d) 0 next_fits next-is (omega arith))))
            (word (n * base + d)) refl h;
      }

pub short-end : (r : Radix) (s : List ℕ) (n i : ℕ) → Short r s n i → length s ≤ i → Ok (word n) ≡ parsed r s
short-end r s n i h past = sofar-end r s (word n) i h.sofar past
