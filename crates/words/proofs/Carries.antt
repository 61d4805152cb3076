-- One digit more, over the base: four half words, each times the base with the carry of the one below it.
-- Assumes nothing.
use Rattle.std.proofs.Common.{◌≡◌, ℕ, ◌+◌, ◌*◌, ◌/◌, ◌%◌, ◌^◌, ◌<◌, ◌≤◌, sym, ap, ◌∙◌, mul_assoc, mul_comm, add-mul, div-add-mod', arith, None, Some}
use Rattle.words.specs.declared.digits.Radix.{Radix}
use Rattle.words.specs.declared.digits.Radix.TheVariants.{Binary, Decimal, Hexadecimal}
use Rattle.words.specs.Pair.{grown}
use Rattle.words.specs.Radix.{base_of}
use Rattle.words.proofs.Numbers.{too_large, fitting, pair_is, grown-fit, grown-over}

abbrev H : ℕ
H = 4294967296

pub base_large : (r : Radix) → 2 ≤ base_of r
base_large Binary = omega arith
base_large Decimal = omega arith
base_large Hexadecimal = omega arith

spread : (x b : ℕ) → x * b ≡ x % H * b + x / H * b * H
spread x b =
    let e : x / H * H * b ≡ x / H * b * H = mul_assoc (x / H) H b ∙ ap (λ (k : ℕ). x / H * k) (mul_comm H b) ∙ sym (mul_assoc (x / H) b H) in
    let s : x * b ≡ x / H * H * b + x % H * b = ap (λ (k : ℕ). k * b) (sym (div-add-mod' x H)) ∙ add-mul (x / H * H) (x % H) b in
    omega arith

above : (f t : ℕ) → H ≤ f → 2 ^ 64 ≤ f * H + t
above f t h = omega arith

within : (f t : ℕ) → f < H → f * H + t % H < 2 ^ 64
within f t h = omega arith

-- the four sums, as the code has them
module _ (p q r s d : ℕ) where
  abbrev first : ℕ
  first = p + d

  abbrev second : ℕ
  second = q + first / H

  abbrev third : ℕ
  third = r + second / H

  abbrev fourth : ℕ
  fourth = s + third / H

  abbrev low' : ℕ
  low' = second % H * H + first % H

  abbrev high' : ℕ
  high' = fourth * H + third % H

  carried : (p + q * H) + (r + s * H) * 2 ^ 64 + d ≡ low' + high' * 2 ^ 64
  carried = omega arith

  low_fits : low' < 2 ^ 64
  low_fits = omega arith

module _ (low high base d : ℕ) where
  abbrev low-next : ℕ
  low-next = low' (low % H * base) (low / H * base) (high % H * base) (high / H * base) d

  abbrev high-next : ℕ
  high-next = high' (low % H * base) (low / H * base) (high % H * base) (high / H * base) d

  abbrev top : ℕ
  top = fourth (low % H * base) (low / H * base) (high % H * base) (high / H * base) d

  next-is : (low + high * 2 ^ 64) * base + d ≡ low-next + high-next * 2 ^ 64
  next-is =
      let m : (low + high * 2 ^ 64) * base ≡ low * base + high * 2 ^ 64 * base = add-mul low (high * 2 ^ 64) base in
      let o : high * 2 ^ 64 * base ≡ high * base * 2 ^ 64 = mul_assoc high (2 ^ 64) base ∙ ap (λ (k : ℕ). high * k) (mul_comm (2 ^ 64) base) ∙ sym (mul_assoc high base (2 ^ 64)) in
      let l = spread low base in
      let h = spread high base in
      let c = carried (low % H * base) (low / H * base) (high % H * base) (high / H * base) d in
      omega arith

  pub digit-over : H ≤ top → None ≡ grown ((low + high * 2 ^ 64) * base + d)
  digit-over h =
      sym (grown-over _ (too_large _ low-next high-next (low_fits (low % H * base) (low / H * base) (high % H * base) (high / H * base) d) next-is (above top _ h)))

  pub digit-fits : top < H → Some (record { low = low-next; high = high-next }) ≡ grown ((low + high * 2 ^ 64) * base + d)
  digit-fits h =
      let l = low_fits (low % H * base) (low / H * base) (high % H * base) (high / H * base) d in
      ap Some (pair_is _ low-next high-next l next-is)
      ∙ sym (grown-fit _ (fitting _ low-next high-next l next-is (within top _ h)))
