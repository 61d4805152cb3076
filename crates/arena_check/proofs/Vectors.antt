-- The number of a bit vector is sign-extended where it, or its complement to 2 ^ 128 - 1, stays below the sign bit.
-- Assumes nothing.
use mathlib.Core.Path.{◌≡◌, refl, sym, ap, ap₂, ◌∙◌, subst}
use mathlib.Core.Bool.{Bool, true, false, not}
use Prim.Native.Nat.{ℕ, ◌+◌, ◌-◌, ◌*◌, ◌%◌, ◌^◌, ◌≤◌, ◌<◌}
use native.Mathlib.Nat.{le_of_lt, mod-mod, mod-lt, mod-eq_of_lt}
use native.Mathlib.Omega.{arith}
use lib.Dec.{leb}
use lib.Pow.{pow_pos, pow_mono, pow-add, not_mod}
use borrow.Author.Tests.{le-leb, lt-leb, leb-true, leb-false}
use Rattle.ground.proofs.Tests.{by_order, by_test}
use Rattle.words.specs.Extension.{negative, extended}
use Rattle.words.proofs.Extends.{extended-wide, extended-positive, extended_negative}
use Rattle.words.proofs.Numbers.{value-fits}
use Rattle.arena.specs.Tree.{BitVector, most_width}
use Rattle.arena_check.specs.Right.{Tells}
use Rattle.arena_check.proofs.Told.{tells-yes, tells-no}

-- `omega` takes no number as large as 2 ^ 128: what is asked of it is asked of any number t
below : (n p t : ℕ) → n < t → t ≤ p → n < p
below n p t h k = omega arith

rest_of : (a n t : ℕ) → a + n ≡ t → n ≡ t - a
rest_of a n t e = omega arith

under : (a n t : ℕ) → a + n ≡ t - 1 → 0 < t → n < t
under a n t e h = omega arith

upper : (a n m p t : ℕ) → a + n ≡ t - 1 → a < p → p ≤ t → m ≡ p - 1 - a → n ≡ m + (t - p)
upper a n m p t e h k f = omega arith

lower : (a n m q p t : ℕ) → a + n ≡ t - 1 → p ≤ t → p ≡ q * 2 → n ≡ m + (t - p) → q ≤ m → m < p → a < q
lower a n m q p t e h k f g l = omega arith

beyond : (a n q h t : ℕ) → a + n ≡ t - 1 → t ≡ h * 2 → 0 < h → h ≤ q → q ≤ n → q ≤ a → ⊥
beyond a n q h t e f p g k l = omega arith

half-below : (a q p : ℕ) → p ≡ q * 2 → a < q → a < p
half-below a q p d h = omega arith

half-left : (a q p : ℕ) → p ≡ q * 2 → a < q → q ≤ p - 1 - a
half-left a q p d h = omega arith

apart : (a q : ℕ) → a < q → q ≤ a → ⊥
apart a q h k = omega arith

spared : (w : ℕ) → w < 128 → 128 - w + w ≡ 128
spared w h = omega arith

wide : (w : ℕ) → 128 ≤ w → 127 ≤ w - 1
wide w h = omega arith

module _ (w : ℕ) (nonzero : 0 < w) where
  double : 2 ^ w ≡ 2 ^ (w - 1) * 2
  double = let e : w ≡ w - 1 + 1 = omega arith in ap (λ (k : ℕ). 2 ^ k) e ∙ pow-add 2 (w - 1) 1

  abbrev Extended : ℕ → Type 0
  Extended n = n ≡ extended w (n % 2 ^ w)

  sign-wide : (n : ℕ) → 128 ≤ w → n < 2 ^ 128 → Extended n
  sign-wide n h fits =
      sym (mod-eq_of_lt (below n (2 ^ w) (2 ^ 128) fits (pow_mono {i = 128} {j = w} h))) ∙ extended-wide w (n % 2 ^ w) h

  sign-positive : (n : ℕ) → n < 2 ^ (w - 1) → Extended n
  sign-positive n h =
      let d = double in
      let e : n % 2 ^ w ≡ n = mod-eq_of_lt (omega arith) in
      let f : n % 2 ^ w % 2 ^ w ≡ n = mod-mod n (2 ^ w) ∙ e in
      sym e ∙ extended-positive w (n % 2 ^ w) (ap (leb (2 ^ (w - 1))) f ∙ lt-leb (2 ^ (w - 1)) n h)

  module _ (n a : ℕ) (sum : a + n ≡ 2 ^ 128 - 1) where
    module _ (short : w < 128) (h : a < 2 ^ (w - 1)) where
      small : a < 2 ^ w
      small = half-below a (2 ^ (w - 1)) (2 ^ w) double h

      low_bits : n % 2 ^ w ≡ 2 ^ w - 1 - a
      low_bits =
          let e : 128 - w + w ≡ 128 = spared w short in
          ap (λ (k : ℕ). k % 2 ^ w) (rest_of a n (2 ^ 128 - 1) sum)
          ∙ ap (λ (k : ℕ). (2 ^ k - 1 - a) % 2 ^ w) (sym e) ∙ not_mod (128 - w) w small

      again : n % 2 ^ w % 2 ^ w ≡ 2 ^ w - 1 - a
      again = mod-mod n (2 ^ w) ∙ low_bits

      set : negative w (n % 2 ^ w) ≡ true
      set = le-leb (2 ^ (w - 1)) (n % 2 ^ w % 2 ^ w) (subst (λ (k : ℕ). 2 ^ (w - 1) ≤ k) (sym again) (half-left a (2 ^ (w - 1)) (2 ^ w) double h))

      sign-short : Extended n
      sign-short =
          upper a n (n % 2 ^ w % 2 ^ w) (2 ^ w) (2 ^ 128) sum small (pow_mono {i = w} {j = 128} (le_of_lt short)) again
          ∙ extended_negative w (n % 2 ^ w) nonzero short set

    sign-negative : a < 2 ^ (w - 1) → Extended n
    sign-negative h = by_order w 128 (λ k. sign-short k h) (λ k. sign-wide n k (under a n (2 ^ 128) sum (pow_pos 128)))

    module _ (far : 2 ^ (w - 1) ≤ n) (deep : 2 ^ (w - 1) ≤ a) (e : Extended n) where
      neither-short : w < 128 → ⊥
      neither-short short =
          by_test (negative w (n % 2 ^ w))
          (λ t.
          let f : n ≡ n % 2 ^ w % 2 ^ w + (2 ^ 128 - 2 ^ w) = e ∙ sym (extended_negative w (n % 2 ^ w) nonzero short t) in
          apart a (2 ^ (w - 1))
          (lower a n (n % 2 ^ w % 2 ^ w) (2 ^ (w - 1)) (2 ^ w) (2 ^ 128) sum (pow_mono {i = w} {j = 128} (le_of_lt short)) double f
          (leb-true _ _ t) (mod-lt (n % 2 ^ w) (pow_pos w))) deep)
          (λ t.
          let f : n ≡ n % 2 ^ w = e ∙ sym (extended-positive w (n % 2 ^ w) t) in
          let g : n % 2 ^ w % 2 ^ w < 2 ^ (w - 1) = leb-false _ _ t in
          apart n (2 ^ (w - 1)) (subst (λ (k : ℕ). k < 2 ^ (w - 1)) (mod-mod n (2 ^ w) ∙ sym f) g) far)

      sign-neither : ⊥
      sign-neither =
          by_order w 128 neither-short
          (λ k. beyond a n (2 ^ (w - 1)) (2 ^ 127) (2 ^ 128) sum refl (pow_pos 127) (pow_mono {i = 127} {j = w - 1} (wide w k)) far deep)

-- the answers, for a width and a number of two words
pub width-zero : (w n : ℕ) → w ≡ 0 → Tells (BitVector w n) false
width-zero w n e = tells-no (λ b. let l = b.least in omega arith)

pub width-over : (w n : ℕ) → most_width < w → Tells (BitVector w n) false
width-over w n h = tells-no (λ b. let m = b.most in omega arith)

abbrev ones : ℕ
ones = 2 ^ 64 - 1

complements : (l h : ℕ) → l < 2 ^ 64 → h < 2 ^ 64 → (ones - l) + (ones - h) * 2 ^ 64 + (l + h * 2 ^ 64) ≡ 2 ^ 128 - 1
complements l h a b =
    let e : ones - l + l ≡ ones = omega arith in
    let f : ones - h + h ≡ ones = omega arith in
    let g : (ones - l) + (ones - h) * 2 ^ 64 + (l + h * 2 ^ 64) ≡ (ones - l + l) + (ones - h + h) * 2 ^ 64 = omega arith in
    g ∙ ap₂ (λ (x y : ℕ). x + y * 2 ^ 64) e f

positive : (w : ℕ) → (w ≡ 0 → ⊥) → 0 < w
positive w h = omega (arith, h)

module _ (w l h : ℕ) (nonzero : w ≡ 0 → ⊥) (most : w ≤ most_width) (low : l < 2 ^ 64) (high : h < 2 ^ 64) where
  abbrev number : ℕ
  number = l + h * 2 ^ 64

  abbrev complement : ℕ
  complement = (ones - l) + (ones - h) * 2 ^ 64

  extends : number ≡ extended w (number % 2 ^ w) → Tells (BitVector w number) true
  extends e = tells-yes (record { least = positive w nonzero; most = most; fits = value-fits l h low high; sign = e })

  pub vector-positive : leb (2 ^ (w - 1)) number ≡ false → Tells (BitVector w number) true
  vector-positive e = extends (sign-positive w (positive w nonzero) number (leb-false _ _ e))

  pub vector-negative : leb (2 ^ (w - 1)) complement ≡ false → Tells (BitVector w number) true
  vector-negative e = extends (sign-negative w (positive w nonzero) number complement (complements l h low high) (leb-false _ _ e))

  pub vector-neither : leb (2 ^ (w - 1)) number ≡ true → leb (2 ^ (w - 1)) complement ≡ true → Tells (BitVector w number) false
  vector-neither e f =
      tells-no (λ b. sign-neither w (positive w nonzero) number complement (complements l h low high) (leb-true _ _ e) (leb-true _ _ f) b.sign)

  -- where the number reaches the sign bit, its complement decides
  pub vector-deep : leb (2 ^ (w - 1)) number ≡ true → (t : Bool) → t ≡ leb (2 ^ (w - 1)) complement → Tells (BitVector w number) (not t)
  vector-deep e true q = vector-neither e (sym q)
  vector-deep e false q = vector-negative (sym q)
