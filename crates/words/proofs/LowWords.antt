-- The low word read as signed: as the library's cast reads it, and in steps: as it is, or its complement below -1.
-- Assumes nothing.
use Rattle.std.proofs.Common.{◌≡◌, ℕ, zero, suc, ◌-◌, ◌^◌, ◌<◌, ◌≤◌, ℤ, pos, negsuc, ◌-ℤ◌, sym, refl, ap, ◌∙◌, subst, zero-add, arith, w64, SFits, to_z, of_z}
use mir.ValLaws.{to_z-of_z}
use Rattle.std.proofs.Math.Facts.{to_z-neg}
use Rattle.std.proofs.lemmas.Int.{of_z-to_z}
use Rattle.ground.proofs.Tests.{by_order}
use Rattle.words.specs.Extension.{signed}
use Rattle.words.proofs.Signs.{minus, signed_low, signed_high}

to_pos : (k : ℕ) → k < 2 ^ 63 → to_z w64 k ≡ pos k
to_pos k h = to_z-of_z w64 (pos k) (record { sfits = h })

below_one : (b : ℕ) → negsuc 0 -ℤ pos b ≡ negsuc b
below_one zero = refl
below_one (suc b) = ap (λ (k : ℕ). negsuc (suc k)) (zero-add b)

module _ (low : ℕ) where
  pub low-positive : low < 2 ^ 63 → to_z w64 low ≡ signed 64 low
  low-positive h = to_pos low h ∙ sym (signed_low 64 low h)

  module _ (fits : low < 2 ^ 64) (h : 2 ^ 63 ≤ low) where
    step : negsuc 0 -ℤ to_z w64 (18446744073709551615 - low) ≡ negsuc (18446744073709551615 - low)
    step = ap (λ (z : ℤ). negsuc 0 -ℤ z) (to_pos (18446744073709551615 - low) (omega arith)) ∙ below_one (18446744073709551615 - low)

    pub low_fits : SFits w64 (negsuc 0 -ℤ to_z w64 (18446744073709551615 - low))
    low_fits = subst (SFits w64) (sym step) (record { sfits = omega arith })

    pub low-negative : to_z w64 (of_z w64 (negsuc 0 -ℤ to_z w64 (18446744073709551615 - low))) ≡ signed 64 low
    low-negative =
        let e : 18446744073709551615 - low ≡ 2 ^ 64 - low - 1 = omega arith in
        to_z-of_z w64 _ low_fits ∙ step ∙ ap negsuc e ∙ sym (minus low (2 ^ 64) fits) ∙ sym (signed_high 64 low h)

    -- the library's cast gives what the steps give
    pub as-cast : to_z w64 low ≡ to_z w64 (of_z w64 (negsuc 0 -ℤ to_z w64 (18446744073709551615 - low)))
    as-cast =
        let below : ℕ = 18446744073709551615 - low in
        let e : low ≡ 2 ^ 64 - suc below = omega arith in
        ap (to_z w64) e ∙ to_z-neg w64 below (omega arith) ∙ sym step ∙ sym (to_z-of_z w64 _ low_fits)

signed_word : (low : ℕ) → low < 2 ^ 64 → to_z w64 low ≡ signed 64 low
signed_word low fits = by_order low (2 ^ 63) (low-positive low) (λ large. as-cast low fits large ∙ low-negative low fits large)

pub cast_word : (low : ℕ) (z : ℤ) → low < 2 ^ 64 → z ≡ to_z w64 low → to_z w64 (of_z w64 z) ≡ signed 64 low
cast_word low z fits e = ap (λ (y : ℤ). to_z w64 (of_z w64 y)) e ∙ ap (to_z w64) (of_z-to_z w64 low fits) ∙ signed_word low fits
