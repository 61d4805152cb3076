-- Hex digits: of a byte, of a pair of words, and put into a buffer, the last one first.
-- Assumes nothing.
use mathlib.Core.Path.{◌≡◌, refl, sym, ap, ◌∙◌}
use mathlib.Core.List.{List, [], ◌∷◌, ◌++◌}
use Prim.Native.Nat.{ℕ, ◌+◌, ◌*◌, ◌-◌, ◌/◌, ◌%◌, ◌^◌, ◌<◌, ◌≤◌}
use native.Mathlib.Numerals.{add-one}
use native.Mathlib.Omega.{arith}
use lib.ListN.{length, take, drop, set}
use borrow.Author.Tests.{lt-ltb, le-ltb}
use Rattle.decimals.proofs.Puts.{Putting, putting_step, putting_end}
use Rattle.values.specs.Text.{hex_digit, hex}

pub digit-small : (d : ℕ) → d < 10 → 48 + d ≡ hex_digit d
unfolding hex_digit
digit-small d h = rw (lt-ltb d 10 h)

pub digit_large : (d : ℕ) → 10 ≤ d → 97 + (d - 10) ≡ hex_digit d
unfolding hex_digit
digit_large d h = let e : 97 + (d - 10) ≡ 87 + d = omega arith in rw (le-ltb d 10 h) e

-- a number of two words without its last digit, and that digit
pub shorter : (low high : ℕ) → low / 16 + high % 16 * 1152921504606846976 + high / 16 * 2 ^ 64 ≡ (low + high * 2 ^ 64) / 16
shorter low high = omega arith

pub shorter-fits : (low high : ℕ) → low < 2 ^ 64 → low / 16 + high % 16 * 1152921504606846976 < 2 ^ 64
shorter-fits low high h = omega arith

pub last-digit-is : (low high r : ℕ) → r ≡ hex_digit (low % 16) → r ≡ hex_digit ((low + high * 2 ^ 64) % 16)
last-digit-is low high r e = let z : low % 16 ≡ (low + high * 2 ^ 64) % 16 = omega arith in e ∙ ap hex_digit z

hex-more : (k n : ℕ) → hex (k + 1) n ≡ hex k (n / 16) ++ (hex_digit (n % 16) ∷ [])
unfolding hex
hex-more k n = rw (add-one k)

hex-none : (n : ℕ) → hex 0 n ≡ []
unfolding hex
hex-none n = refl

-- put into a buffer
module _ (number start end : ℕ) (entry out : List ℕ) (rest at : ℕ) (so : Putting hex number start end entry out rest at) where
  pub hex-step : end ≤ length entry → start < at → (d next : ℕ) → d ≡ hex_digit (rest % 16) → next ≡ rest / 16 → Putting hex number start end entry (set out (at - 1) d) next (at - 1)
  hex-step fits more d next g n =
      putting_step hex number start end entry out rest at so fits more d next
      (λ k. hex-more k rest ∙ sym (ap (λ (m : ℕ). hex k m ++ (d ∷ [])) n ∙ ap (λ (x : ℕ). hex k (rest / 16) ++ (x ∷ [])) g))

  pub hex-end : at ≤ start → out ≡ take start entry ++ (hex (end - start) number ++ drop end entry)
  hex-end h = putting_end hex number start end entry out rest at so (hex-none rest) h
