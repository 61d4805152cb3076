-- The texts of a number and of a signed number, as the calls leave them.
-- Assumes nothing.
use Rattle.std.proofs.Common.{Err, Ok}
use mathlib.Core.Path.{◌≡◌, sym, ap, ap₂, ◌∙◌, subst}
use mathlib.Core.Bool.{Bool, true, false}
use mathlib.Core.List.{List, [], ◌∷◌, ◌++◌}
use Prim.Native.Nat.{ℕ, ◌+◌, ◌-◌, ◌<◌, ◌≤◌}
use native.Mathlib.Numerals.{add-one}
use native.Mathlib.Omega.{arith}
use lib.Dec.{T}
use lib.IntN.{ℤ, pos, negsuc, nat_abs}
use lib.ListN.{length, take, drop, set}
use lib.Signed.{lt_z}
use mir.Syntax.{w64}
use mir.Val.{SFits}
use mir.ValLaws.{to_z-of_z}
use borrow.Author.Tests.{ltb-true}
use Rattle.refusals.specs.declared.Refusal.TheVariants.{OutRoom}
use Rattle.lent.specs.Left.{onto, writing, Leaves}
use Rattle.lent.proofs.Lefts.{leaves-text, leaves-short}
use Rattle.decimals.specs.Decimal.{last_digits, digit_count, decimal, signed_decimal}
use Rattle.decimals.proofs.Counts.{count_most}
use Rattle.decimals.proofs.Magnitudes.{back, below, negative}
use Rattle.decimals.proofs.Puts.{length_digits}

pub length-decimal : (n : ℕ) → length (decimal n) ≡ digit_count n
unfolding decimal
length-decimal n = length_digits (digit_count n) n

negative-holds : (n k : ℕ) (d : List ℕ) → k ≡ digit_count n → k + 1 ≤ length d
    → take 1 (set d 0 45) ++ (last_digits (k + 1 - 1) n ++ drop (k + 1) (set d 0 45)) ≡ onto (45 ∷ decimal n) d
unfolding onto decimal
negative-holds n k [] is h = absurd (omega arith)
negative-holds n k (b ∷ bs) is h =
    let i : k + 1 - 1 ≡ digit_count n = omega arith in
    let j : k ≡ length (last_digits (digit_count n) n) = is ∙ sym (length_digits (digit_count n) n) in
    ap₂ (λ (x : ℕ) (y : List ℕ). 45 ∷ (last_digits x n ++ y)) i (ap (λ (m : ℕ). drop m (45 ∷ bs)) (add-one k) ∙ ap (λ (m : ℕ). drop m bs) j)

module _ (n k : ℕ) (d : List ℕ) (is : k ≡ digit_count n) where
  pub natural-short : length d < k → Leaves (writing OutRoom (decimal n) d) (Err (OutRoom k)) d
  natural-short h = let l = length-decimal n in leaves-short OutRoom (decimal n) d k (omega arith) (omega arith)

  pub natural-put : (e : List ℕ) → k ≤ length d → e ≡ take 0 d ++ (last_digits (k - 0) n ++ drop k d) → Leaves (writing OutRoom (decimal n) d) (Ok k) e
  unfolding decimal onto
  natural-put e h q =
      let l = length-decimal n in
      let z : k - 0 ≡ digit_count n = omega arith in
      let m : k ≡ length (decimal n) = omega arith in
      leaves-text OutRoom (decimal n) d k e (omega arith) (omega arith)
      (q ∙ ap₂ (λ (i j : ℕ). last_digits i n ++ drop j d) z m)

  pub negative_fits : k + 1 ≤ 41
  negative_fits = omega (arith, count_most n)

  pub negative-short : length d < k + 1 → Leaves (writing OutRoom (45 ∷ decimal n) d) (Err (OutRoom (k + 1))) d
  negative-short h = let l = length-decimal n in leaves-short OutRoom (45 ∷ decimal n) d (k + 1) (omega arith) (omega arith)

  pub negative-put : (e : List ℕ) → k + 1 ≤ length d → e ≡ take 1 (set d 0 45) ++ (last_digits (k + 1 - 1) n ++ drop (k + 1) (set d 0 45)) → Leaves (writing OutRoom (45 ∷ decimal n) d) (Ok (k + 1)) e
  negative-put e h q =
      let l = length-decimal n in
      leaves-text OutRoom (45 ∷ decimal n) d (k + 1) e (omega arith) (omega arith) (q ∙ negative-holds n k d is h)

-- the sign of a number, as the code tests it, and its text: first by the two steps that stay within 64 bits
pub steps-text : (z : ℤ) → SFits w64 z → lt_z (back z) (pos 0) ≡ true → 45 ∷ decimal (nat_abs (back (below z)) + 1) ≡ signed_decimal z
unfolding signed_decimal
steps-text (pos k) f e =
    let q : lt_z (pos k) (pos 0) ≡ true = sym (ap (λ (z : ℤ). lt_z z (pos 0)) (to_z-of_z w64 (pos k) f)) ∙ e in
    absurd (omega (arith, ltb-true k 0 q))
steps-text (negsuc k) f e = ap (λ (x : ℕ). 45 ∷ decimal x) (negative (negsuc k) f e).one_more

-- then by the size that the library gives, which is the one that the steps come to
pub signed-negative : (z : ℤ) (m : ℕ) → SFits w64 z → lt_z (back z) (pos 0) ≡ true → m ≡ nat_abs (back z) → 45 ∷ decimal m ≡ signed_decimal z
signed-negative z m f e g = ap (λ (x : ℕ). 45 ∷ decimal x) (g ∙ ap nat_abs (to_z-of_z w64 z f) ∙ sym (negative z f e).one_more) ∙ steps-text z f e

pub signed-natural : (z : ℤ) (m : ℕ) → SFits w64 z → lt_z (back z) (pos 0) ≡ false → m ≡ nat_abs (back z) → decimal m ≡ signed_decimal z
unfolding signed_decimal
signed-natural (pos k) m f e g = ap decimal (g ∙ ap nat_abs (to_z-of_z w64 (pos k) f))
signed-natural (negsuc k) m f e g =
    let q : true ≡ false = sym (ap (λ (z : ℤ). lt_z z (pos 0)) (to_z-of_z w64 (negsuc k) f)) ∙ e in
    absurd (subst (λ (t : Bool). T t) q tt)
