-- The magnitude of a negative number by way of its successor, which fits where the negation of the least does not.
-- Assumes nothing.
use mathlib.Core.Path.{◌≡◌, ap, sym, ◌∙◌, subst}
use mathlib.Core.Bool.{true}
use Prim.Native.Nat.{ℕ, zero, suc, ◌+◌, ◌<◌, ◌^◌}
use native.Mathlib.Numerals.{add-one}
use native.Mathlib.Omega.{arith}
use lib.Dec.{T}
use lib.IntN.{ℤ, pos, negsuc, neg_ℤ, nat_abs, ◌+ℤ◌, ◌-ℤ◌, +ℤ_one, +ℤ_idl, neg_ℤ-neg_ℤ}
use lib.Signed.{lt_z, non_neg}
use mir.Syntax.{w64}
use mir.Val.{SFits, to_z, of_z}
use mir.ValLaws.{to_z-of_z}
use borrow.Author.Tests.{ltb-true}

-- a number as the machine reads it back from its bits
abbrev pub back : ℤ → ℤ
back z = to_z w64 (of_z w64 z)

up_one : (k : ℕ) → negsuc k +ℤ pos 1 ≡ neg_ℤ (pos k)
up_one zero = +ℤ_one (negsuc zero)
up_one (suc k) = +ℤ_one (negsuc (suc k))

fits_neg : (k : ℕ) → k < 2 ^ 63 → SFits w64 (neg_ℤ (pos k))
fits_neg zero h = record { sfits = h }
fits_neg (suc k) h = record { sfits = omega arith }

-- two steps, each within 64 bits; the size that they come to is the one that the library's unsigned_abs gives the code
abbrev pub above : ℤ → ℤ
above n = back n +ℤ pos 1

abbrev pub below : ℤ → ℤ
below n = pos 0 -ℤ back (above n)

module _ (k : ℕ) (h : k < 2 ^ 63) where
  above-is : above (negsuc k) ≡ neg_ℤ (pos k)
  above-is = ap (λ (z : ℤ). z +ℤ pos 1) (to_z-of_z w64 (negsuc k) (record { sfits = h })) ∙ up_one k

  above-fits : SFits w64 (above (negsuc k))
  above-fits = subst (λ (z : ℤ). SFits w64 z) (sym above-is) (fits_neg k h)

  below-is : below (negsuc k) ≡ pos k
  below-is =
      ap (λ (z : ℤ). pos 0 -ℤ z) (to_z-of_z w64 (above (negsuc k)) above-fits ∙ above-is)
      ∙ ap (λ (z : ℤ). pos 0 +ℤ z) (neg_ℤ-neg_ℤ (pos k)) ∙ +ℤ_idl (pos k)

  below-fits : SFits w64 (below (negsuc k))
  below-fits = subst (λ (z : ℤ). SFits w64 z) (sym below-is) (record { sfits = h })

  back_is : back (below (negsuc k)) ≡ pos k
  back_is = to_z-of_z w64 (below (negsuc k)) below-fits ∙ below-is

-- what the needs ask of a negative number
pub record Negative (n : ℤ) : Type 0 where
  pub first : SFits w64 (above n)
  pub second : SFits w64 (below n)
  pub positive : T (non_neg (back (below n)))
  pub small : nat_abs (back (below n)) < 2 ^ 63
  pub one_more : nat_abs (back (below n)) + 1 ≡ nat_abs n

pub negative : (n : ℤ) → SFits w64 n → lt_z (back n) (pos 0) ≡ true → Negative n
negative (pos k) f e =
    let q : lt_z (pos k) (pos 0) ≡ true = sym (ap (λ (z : ℤ). lt_z z (pos 0)) (to_z-of_z w64 (pos k) f)) ∙ e in
    absurd (omega (arith, ltb-true k 0 q))
negative (negsuc k) f e = record {
  first = above-fits k f.sfits;
  second = below-fits k f.sfits;
  positive = subst (λ (z : ℤ). T (non_neg z)) (sym (back_is k f.sfits)) tt;
  small = subst (λ (z : ℤ). nat_abs z < 2 ^ 63) (sym (back_is k f.sfits)) f.sfits;
  one_more = ap (λ (z : ℤ). nat_abs z + 1) (back_is k f.sfits) ∙ add-one k;
}
