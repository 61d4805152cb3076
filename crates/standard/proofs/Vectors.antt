-- The 128 bits of a bit vector's image: ours hold them, and read as signed they are its number, signed at its width.
-- Assumes nothing.
use mathlib.Core.Path.{◌≡◌, sym, ap, ◌∙◌}
use mathlib.Core.Bool.{true, false≢true}
use mathlib.Core.List.{List, [], ◌∷◌}
use Prim.Native.Nat.{ℕ, suc, ◌-◌, ◌*◌, ◌^◌, ◌<◌}
use native.Mathlib.Nat.{lt_of_lt_of_le}
use native.Mathlib.Omega.{arith}
use lib.ListN.{length}
use lib.Pow.{pow_mono}
use Rattle.ground.proofs.Tests.{by_order}
use Rattle.words.specs.declared.digits.Radix.TheVariants.{Binary, Hexadecimal}
use Rattle.words.specs.Radix.{is_digit}
use Rattle.words.specs.Run.{number}
use Rattle.words.specs.Extension.{signed, extended}
use Rattle.words.proofs.Extends.{extended-wide}
use Rattle.words.proofs.Signs.{minus, signed_low, signed_high, sign_kept}
use Rattle.reader.proofs.Signs.{binary-below, hexadecimal-below, extended_fits}
use Rattle.standard.specs.Bytes.{binary_digits, hexadecimal_digits}
use Rattle.standard.specs.Written.{run}
use Rattle.standard.specs.Image.{signed_by, twos}
use Rattle.standard.specs.Limits.{Narrow}
use Rattle.standard.proofs.Runs.{pass_all}
use Rattle.standard.proofs.Numbers.{binaries_are, hexadecimals_are}

-- what no two's complement of 128 bits loses
back : (k m : ℕ) → k < m → m - suc (m - k - 1) ≡ k
back k m h = omega arith

twos-signed : (k : ℕ) → k < 2 ^ 128 → twos (signed 128 k) ≡ k
twos-signed k h =
    by_order k (2 ^ 127)
    (λ l. ap twos (signed_low 128 k l))
    (λ l. ap twos (signed_high 128 k l ∙ minus k (2 ^ 128) h) ∙ back k (2 ^ 128) h)

-- a width and a number that it holds
module _ (w n : ℕ) (nonzero : 0 < w) (fit : n < 2 ^ w) (narrow : 128 < w → n < 2 ^ 127) where
  small : n < 2 ^ 128
  small =
      by_order 128 w
      (λ h. lt_of_lt_of_le (narrow h) (pow_mono {i = 127} {j = 128} (omega arith)))
      (λ h. lt_of_lt_of_le fit (pow_mono {i = w} {j = 128} h))

  sign : signed 128 (extended w n) ≡ signed w n
  sign =
      by_order 128 w
      (λ h.
      let l : n < 2 ^ 127 = narrow h in
      ap (λ (k : ℕ). signed 128 k) (sym (extended-wide w n (omega arith))) ∙ signed_low 128 n l
      ∙ sym (signed_low w n (lt_of_lt_of_le l (pow_mono {i = 127} {j = w - 1} (omega arith)))))
      (λ h. sign_kept w n nonzero fit h)

  same : extended w n ≡ twos (signed w n)
  same = sym (twos-signed (extended w n) (extended_fits w n nonzero fit small)) ∙ ap twos sign

  kept : signed 128 (twos (signed w n)) ≡ signed w n
  kept = ap (λ (k : ℕ). signed 128 k) (sym same) ∙ sign

-- of `#x` and `#b`, and their digits
pub record Held (per base : ℕ) (ds : List ℕ) : Type 0 where
  pub small : number base ds < 2 ^ 128
  pub same : extended (per * length ds) (number base ds) ≡ twos (signed_by per base ds)
  pub kept : signed 128 (twos (signed_by per base ds)) ≡ signed_by per base ds

held : (per base : ℕ) (ds : List ℕ) → 0 < per * length ds → number base ds < 2 ^ (per * length ds) → Narrow per base ds → Held per base ds
held per base ds nonzero fit narrow = record {
  small = small (per * length ds) (number base ds) nonzero fit narrow;
  same = same (per * length ds) (number base ds) nonzero fit narrow;
  kept = kept (per * length ds) (number base ds) nonzero fit narrow;
}

pub hexadecimal-held : (ds : List ℕ) → run hexadecimal_digits ds ≡ true → Narrow 4 16 ds → Held 4 16 ds
hexadecimal-held [] h narrow = absurd (false≢true h)
hexadecimal-held (d ∷ ds) h narrow =
    held 4 16 (d ∷ ds) (omega arith)
    (hexadecimal-below (d ∷ ds) (pass_all (is_digit Hexadecimal) hexadecimal_digits (d ∷ ds) hexadecimals_are h)) narrow

pub binary-held : (ds : List ℕ) → run binary_digits ds ≡ true → Narrow 1 2 ds → Held 1 2 ds
binary-held [] h narrow = absurd (false≢true h)
binary-held (d ∷ ds) h narrow =
    held 1 2 (d ∷ ds) (omega arith)
    (binary-below (d ∷ ds) (pass_all (is_digit Binary) binary_digits (d ∷ ds) binaries_are h)) narrow
