-- A run of digits as a bit vector: its number fits its width, and its sign extension has it as its low bits.
-- Assumes nothing.
use mathlib.Core.Path.{◌≡◌, sym, ap, ◌∙◌, subst}
use mathlib.Core.Bool.{true}
use mathlib.Core.List.{List, [], ◌∷◌}
use Prim.Native.Nat.{ℕ, suc, ◌+◌, ◌-◌, ◌*◌, ◌%◌, ◌^◌, ◌≤◌, ◌<◌}
use native.Mathlib.Omega.{arith}
use native.Mathlib.Nat.{mod-eq_of_lt, add-mul, one-mul, mul-one, mul-zero, mul-suc, mul_assoc, add_comm}
use lib.ListN.{length}
use lib.Pow.{pow_pos, pow_mono, pow-add, low}
use borrow.Author.Tests.{ltb-true}
use Rattle.ground.specs.Lists.{all}
use Rattle.ground.proofs.Tests.{by_order, by_test, both_left, both_right}
use Rattle.words.specs.declared.digits.Radix.{Radix}
use Rattle.words.specs.declared.digits.Radix.TheVariants.{Binary, Hexadecimal}
use Rattle.words.specs.Radix.{base_of, worth, is_digit}
use Rattle.words.specs.Run.{from, number, digits}
use Rattle.words.specs.Extension.{negative, filled, extended}
use Rattle.words.proofs.Extends.{extended-wide, extended-positive, extended_negative}
use Rattle.arena.specs.Tree.{BitVector, most_width}

-- so many digits stand for a number of so many bits, per bits a digit
module _ (r : Radix) (per : ℕ) (step : (n x d : ℕ) → n < x → d < base_of r → n * base_of r + d < x * 2 ^ per) where
  below : (s : List ℕ) (n x : ℕ) → digits r s ≡ true → n < x → from (base_of r) n s < x * 2 ^ (per * length s)
  unfolding from all
  below [] n x h l = subst (λ (k : ℕ). n < k) (sym (ap (λ (e : ℕ). x * 2 ^ e) (mul-zero per) ∙ mul-one x)) l
  below (b ∷ bs) n x h l =
      let e : per + per * length bs ≡ per * suc (length bs) = add_comm per (per * length bs) ∙ sym (mul-suc per (length bs)) in
      subst (λ (k : ℕ). from (base_of r) (n * base_of r + worth b) bs < k)
      (mul_assoc x (2 ^ per) (2 ^ (per * length bs)) ∙ ap (λ (k : ℕ). x * k) (sym (pow-add 2 per (per * length bs)) ∙ ap (λ (k : ℕ). 2 ^ k) e))
      (below bs (n * base_of r + worth b) (x * 2 ^ per) (both_right (is_digit r b) (digits r bs) h)
      (step n x (worth b) l (ltb-true (worth b) (base_of r) (both_left (is_digit r b) (digits r bs) h))))

  number-below : (s : List ℕ) → digits r s ≡ true → number (base_of r) s < 2 ^ (per * length s)
  number-below s h = subst (λ (k : ℕ). number (base_of r) s < k) (one-mul (2 ^ (per * length s))) (below s 0 1 h (omega arith))

pub binary-below : (s : List ℕ) → digits Binary s ≡ true → number 2 s < 2 ^ (1 * length s)
binary-below s h = number-below Binary 1 (λ n x d l m. omega arith) s h

pub hexadecimal-below : (s : List ℕ) → digits Hexadecimal s ≡ true → number 16 s < 2 ^ (4 * length s)
hexadecimal-below s h = number-below Hexadecimal 4 (λ n x d l m. omega arith) s h

-- no number as large as 2 ^ 128 stands in what is asked below: t is any
under : (n p t : ℕ) → n < p → p ≤ t → n + (t - p) < t
under n p t h k = omega arith

less_one : (a p : ℕ) → 0 < a → a * p - p ≡ (a - 1) * p
less_one a p h =
    let e : a ≡ a - 1 + 1 = omega arith in
    let f : a * p ≡ (a - 1) * p + p = ap (λ (k : ℕ). k * p) e ∙ add-mul (a - 1) 1 p ∙ ap (λ (k : ℕ). (a - 1) * p + k) (one-mul p) in
    omega arith

swap : (n m : ℕ) → n + m ≡ m + n
swap n m = omega arith

module _ (w n : ℕ) (nonzero : 0 < w) (within : n < 2 ^ w) where
  record Held : Type 0 where
    pub fits : extended w n < 2 ^ 128
    pub lows : extended w n % 2 ^ w ≡ n

  held_plain : n < 2 ^ 128 → n ≡ extended w n → Held
  held_plain h e = record { fits = subst (λ (k : ℕ). k < 2 ^ 128) e h; lows = ap (λ (k : ℕ). k % 2 ^ w) (sym e) ∙ mod-eq_of_lt within }

  held-filled : w < 128 → filled 128 w n ≡ extended w n → Held
  held-filled h e =
      let f : filled 128 w n ≡ n + (2 ^ 128 - 2 ^ w) = ap (λ (k : ℕ). k + (2 ^ 128 - 2 ^ w)) (mod-eq_of_lt within) in
      let g : 2 ^ 128 ≡ 2 ^ (128 - w) * 2 ^ w = ap (λ (k : ℕ). 2 ^ k) (spared w h) ∙ pow-add 2 (128 - w) w in
      let m : 2 ^ 128 - 2 ^ w ≡ (2 ^ (128 - w) - 1) * 2 ^ w = ap (λ (k : ℕ). k - 2 ^ w) g ∙ less_one (2 ^ (128 - w)) (2 ^ w) (pow_pos (128 - w)) in
      record {
        fits = subst (λ (k : ℕ). k < 2 ^ 128) (sym f ∙ e) (under n (2 ^ w) (2 ^ 128) within (pow_mono (below w h)));
        lows =
            ap (λ (k : ℕ). k % 2 ^ w) (sym e ∙ f ∙ ap (λ (k : ℕ). n + k) m ∙ swap n ((2 ^ (128 - w) - 1) * 2 ^ w))
            ∙ low (2 ^ (128 - w) - 1) w within;
      }
    where
      spared : (w : ℕ) → w < 128 → 128 ≡ 128 - w + w
      spared w h = omega arith

      below : (w : ℕ) → w < 128 → w ≤ 128
      below w h = omega arith

  held : n < 2 ^ 128 → Held
  held h =
      by_order w 128
      (λ short. by_test (negative w n) (λ t. held-filled short (extended_negative w n nonzero short t)) (λ t. held_plain h (extended-positive w n t)))
      (λ wide. held_plain h (extended-wide w n wide))

  pub extended_fits : n < 2 ^ 128 → extended w n < 2 ^ 128
  extended_fits h = (held h).fits

  pub extended-sound : n < 2 ^ 128 → w ≤ most_width → BitVector w (extended w n)
  extended-sound h most = record { least = nonzero; most = most; fits = (held h).fits; sign = ap (extended w) (sym (held h).lows) }
