-- Whole numbers by sign and size: which leave the range, the number that the lowest bits are, and the three results.
-- Assumes nothing.
use Rattle.std.proofs.Common.{◌≡◌, ℕ, zero, suc, ◌+◌, ◌-◌, ◌%◌, ◌^◌, ◌<◌, ◌≤◌, Bool, true, false, not, ◌&&◌, ltb, leb, ℤ, pos, negsuc, ◌-ℤ◌, neg_ℤ, sym, ap, ◌∙◌, subst, ap₂, le_trans, lt_of_lt_of_le, lt_irrefl, mod-lt, mod-eq_of_lt, arith, pow_pos, pow_mono, le-ltb, lt-ltb, le-leb, leb-false, leb-true, None, Some}
use lib.Signed.{le_z, lt_z}
use lib.Pow.{pow-lt}
use borrow.Author.Tests.{lt-leb}
use Rattle.ground.proofs.Tests.{by_order}
use Rattle.words.specs.declared.pair.Pair.{Pair}
use Rattle.words.specs.Pair.{value, pair_of, grown}
use Rattle.words.specs.Extension.{signed, extended}
use Rattle.words.proofs.Numbers.{too_far, fit-value, value-pair}
use Rattle.words.proofs.Extends.{extended-wide, extended_negative}
use Rattle.words.proofs.Signs.{minus, signed_low, signed_high}
use Rattle.overflow.specs.Overflow.{overflows, tells, number}
use Rattle.overflow.specs.Sign.{signed_by}

-- a size as it is held to the limit: the negative numbers go one further
abbrev pub held : Bool → ℕ → ℕ
held true n = n - 1
held false n = n

not-below : (n p : ℕ) → not (ltb n p) ≡ leb p n
not-below n p = by_order n p (λ h. ap not (lt-ltb n p h) ∙ sym (lt-leb p n h)) (λ h. ap not (le-ltb n p h) ∙ sym (le-leb p n h))

-- outside of what lies from -p up to p
abbrev outside : ℕ → ℤ → Bool
outside p z = not (le_z (neg_ℤ (pos p)) z && lt_z z (pos p))

outside-natural : (p n : ℕ) → 0 < p → outside p (pos n) ≡ leb p n
outside-natural zero n h = absurd (omega arith)
outside-natural (suc q) n h = not-below n (suc q)

-- the least number is inside
reached : (n q : ℕ) → not (leb n q && true) ≡ leb (suc q) n
reached n q =
    by_order q n (λ h. ap (λ (t : Bool). not (t && true)) (lt-leb n q h) ∙ sym (le-leb (suc q) n (omega arith)))
    (λ h. ap (λ (t : Bool). not (t && true)) (le-leb n q h) ∙ sym (lt-leb (suc q) n (omega arith)))

outside-negative : (p n : ℕ) → 0 < p → outside p (negsuc n) ≡ leb p n
outside-negative zero n h = absurd (omega arith)
outside-negative (suc q) n h = reached n q

outside-by : (p : ℕ) (b : Bool) (n : ℕ) → 0 < p → outside p (signed_by b n) ≡ leb p (held b n)
outside-by p false n h = outside-natural p n h
outside-by p true zero h = outside-natural p zero h
outside-by p true (suc n) h = let e : n ≡ suc n - 1 = omega arith in outside-negative p n h ∙ ap (leb p) e

pub overflows-by : (w : ℕ) (b : Bool) (n : ℕ) → overflows w (signed_by b n) ≡ leb (2 ^ (w - 1)) (held b n)
overflows-by w b n = outside-by (2 ^ (w - 1)) b n (pow_pos (w - 1))

-- widths over 128, and the others
module _ (w : ℕ) (z : ℤ) where
  pub tells_none : 128 < w → false ≡ tells w z
  tells_none h = ap (λ (t : Bool). t && overflows w z) (sym (lt-leb w 128 h))

  pub tells_all : w ≤ 128 → overflows w z ≡ tells w z
  tells_all h = ap (λ (t : Bool). t && overflows w z) (sym (le-leb w 128 h))

  pub tells-inside : overflows w z ≡ false → false ≡ tells w z
  tells-inside e = by_order 128 w tells_none (λ h. sym e ∙ tells_all h)

-- what the code tells of a size
module _ (w : ℕ) (b : Bool) (n : ℕ) (h : w ≤ 128) where
  reach : (s : ℕ) → s ≡ w - 1 → (v : ℕ) → v ≡ held b n → (r : Bool) → r ≡ leb (2 ^ s) v → r ≡ tells w (signed_by b n)
  reach s e v f r g = g ∙ ap₂ (λ (x y : ℕ). leb (2 ^ x) y) e f ∙ sym (overflows-by w b n) ∙ tells_all w (signed_by b n) h

  held-past : (p : ℕ) → p < n → p ≤ held b n
  held-past p k = past b
    where
      past : (t : Bool) → p ≤ held t n
      past true = omega arith
      past false = omega arith

  pub told_over : None ≡ grown n → true ≡ tells w (signed_by b n)
  told_over e =
      let i : w - 1 < 128 = omega arith in
      sym (le-leb (2 ^ (w - 1)) (held b n) (held-past (2 ^ (w - 1)) (lt_of_lt_of_le (pow-lt i) (too_far n (sym e)))))
      ∙ sym (overflows-by w b n) ∙ tells_all w (signed_by b n) h

module _ (w n s : ℕ) (h : w ≤ 128) (e : s ≡ w - 1) (p : Pair) (k : Some p ≡ grown n) (r : Bool) where
  pub told-natural : r ≡ leb (2 ^ s) (value p) → r ≡ tells w (signed_by false n)
  told-natural g = reach w false n h s e (value p) (fit-value n p (sym k)) r g

  pub told-negative : (q : ℕ) → q ≡ value p - 1 → r ≡ leb (2 ^ s) q → r ≡ tells w (signed_by true n)
  told-negative q f g = reach w true n h s e q (f ∙ ap (λ (x : ℕ). x - 1) (fit-value n p (sym k))) r g

-- a size and a number that make up p
left_over : (r v p : ℕ) → r + v ≡ p → v < p → neg_ℤ (pos r) ≡ pos v -ℤ pos p
left_over zero v p e h = absurd (omega arith)
left_over (suc r) v p e h = let k : r ≡ p - v - 1 = omega arith in ap negsuc k ∙ sym (minus v p h)

-- what a number under ones leaves of the whole
taken-off : (r v p m x : ℕ) → r + x ≡ m → x ≡ v + (m - p) → v < p → p ≤ m → r + v ≡ p
taken-off r v p m x e f h k = omega arith

nonzero : (v x y : ℕ) → 0 < v → x ≡ v + y → 0 < x
nonzero v x y h e = omega arith

-- the lowest bits and the bit that holds their sign
module _ (w n v s : ℕ) (low : v ≡ n % 2 ^ w) (bit : s ≡ w - 1) where
  pub signed-natural : leb (2 ^ s) v ≡ false → pos v ≡ number w n
  signed-natural t =
      sym (signed_low w v (subst (λ (x : ℕ). v < 2 ^ x) bit (leb-false (2 ^ s) v t))) ∙ ap (signed w) low

  module _ (t : leb (2 ^ s) v ≡ true) (fits : v < 2 ^ 128) where
    half : 2 ^ (w - 1) ≤ v
    half = subst (λ (x : ℕ). 2 ^ x ≤ v) bit (leb-true (2 ^ s) v t)

    below : v < 2 ^ w
    below = subst (λ (x : ℕ). x < 2 ^ w) (sym low) (mod-lt n (pow_pos w))

    some-width : 0 < w
    some-width =
        by_order 0 w (λ h. h)
        (λ h.
        let e : w ≡ 0 = omega arith in
        let a : 1 ≤ v = subst (λ (x : ℕ). 2 ^ (x - 1) ≤ v) e half in
        let b : v < 1 = subst (λ (x : ℕ). v < 2 ^ x) e below in
        absurd (omega arith))

    no_more : w ≤ 128
    no_more =
        by_order (w - 1) 128 (λ h. omega arith)
        (λ h. absurd (lt_irrefl v (lt_of_lt_of_le fits (le_trans (pow_mono h) half))))

    under_ones : extended w v ≡ v + (2 ^ 128 - 2 ^ w)
    under_ones =
        let m : v % 2 ^ w ≡ v = mod-eq_of_lt below in
        by_order w 128
        (λ h. sym (extended_negative w v some-width h (ap (leb (2 ^ (w - 1))) m ∙ le-leb (2 ^ (w - 1)) v half)) ∙ ap (λ (x : ℕ). x + (2 ^ 128 - 2 ^ w)) m)
        (λ h.
        let k = no_more in
        let e : 128 ≡ w = omega arith in
        let z : v ≡ v + 0 = omega arith in
        sym (extended-wide w v h) ∙ z ∙ ap (λ (x : ℕ). v + (2 ^ 128 - 2 ^ x)) e)

    pub signed-negative : (p : Pair) (r : ℕ) → p ≡ pair_of (extended w v) → (0 < value p → r + value p ≡ 2 ^ 128) → neg_ℤ (pos r) ≡ number w n
    signed-negative p r e f =
        let x : value p ≡ v + (2 ^ 128 - 2 ^ w) = ap value e ∙ value-pair (extended w v) ∙ under_ones in
        let g : r + value p ≡ 2 ^ 128 = f (nonzero v (value p) (2 ^ 128 - 2 ^ w) (lt_of_lt_of_le (pow_pos (w - 1)) half) x) in
        left_over r v (2 ^ w) (taken-off r v (2 ^ w) (2 ^ 128) (value p) g x below (pow_mono no_more)) below
        ∙ sym (signed_high w v half) ∙ ap (signed w) low
