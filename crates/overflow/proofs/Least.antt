-- The negation of a number leaves the range exactly where the number is the least one: SMT-LIB's own words for bvnego.
-- Assumes nothing.
use Rattle.std.proofs.Common.{◌≡◌, ℕ, suc, ◌-◌, ◌^◌, ◌≤◌, true, false, ℤ, pos, negsuc, neg_ℤ, sym, ap, ◌∙◌, le_refl, arith, le-leb, leb-true}
use lib.IntN.{neg_ℤ-neg_ℤ}
use Rattle.overflow.specs.Overflow.{overflows, number}
use Rattle.overflow.proofs.Signs.{overflows-by}
use Rattle.overflow.proofs.Results.{within, held-inside}

only-least : (w : ℕ) (z : ℤ) → overflows w z ≡ false → overflows w (neg_ℤ z) ≡ true → z ≡ neg_ℤ (pos (2 ^ (w - 1)))
only-least w (pos m) e f =
    let h = held-inside w false m e in
    let k : 2 ^ (w - 1) ≤ m - 1 = leb-true _ _ (sym (overflows-by w true m) ∙ f) in
    absurd (omega arith)
only-least w (negsuc m) e f =
    let h = held-inside w true (suc m) e in
    let k : 2 ^ (w - 1) ≤ suc m = leb-true _ _ (sym (overflows-by w false (suc m)) ∙ f) in
    let g : suc m ≡ 2 ^ (w - 1) = omega arith in
    ap (λ (n : ℕ). neg_ℤ (pos n)) g

module _ (w n : ℕ) where
  pub negation-least : overflows w (neg_ℤ (number w n)) ≡ true → number w n ≡ neg_ℤ (pos (2 ^ (w - 1)))
  negation-least e = only-least w (number w n) (within w n) e

  pub least-negation : number w n ≡ neg_ℤ (pos (2 ^ (w - 1))) → overflows w (neg_ℤ (number w n)) ≡ true
  least-negation e =
      ap (λ (z : ℤ). overflows w (neg_ℤ z)) e ∙ ap (overflows w) (neg_ℤ-neg_ℤ (pos (2 ^ (w - 1))))
      ∙ overflows-by w false (2 ^ (w - 1)) ∙ le-leb _ _ (le_refl (2 ^ (w - 1)))
