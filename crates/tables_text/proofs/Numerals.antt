-- Numbers without leading zeros: read digit by digit, they are the decimal text of what is read.
-- Assumes nothing.
use Rattle.std.proofs.Common.{None, Option, Some}
use mathlib.Core.Path.{◌≡◌, refl, sym, ap, ap₂, ◌∙◌}
use mathlib.Core.Bool.{Bool, cond, ◌&&◌}
use mathlib.Core.List.{List, [], ◌∷◌, ◌++◌, append-nil}
use Prim.Native.Nat.{ℕ, suc, ◌+◌, ◌-◌, ◌*◌, ◌/◌, ◌%◌, ◌≤◌, ◌<◌}
use native.Mathlib.Omega.{arith}
use lib.Dec.{eqb, leb}
use lib.ListN.{length, get_or, drop, drop_of_length-le}
use lib.Seq.{append_snoc}
use borrow.Author.Tests.{eq-eqb, ne_eqb, eqb-true, eqb-false, lt-ltb, le-ltb, le-leb, lt-leb}
use Rattle.ground.proofs.Tests.{by_order, by_test, and-false}
use Rattle.ground.proofs.Lists.{at_place}
use Rattle.decimals.specs.Decimal.{last_digits, digit_count, decimal}
use Rattle.decimals.proofs.Counts.{count-more, count-one}
use Rattle.tables_text.specs.Parse.{digits_from, numeral, alone}
use Rattle.tables_text.specs.Told.{number_told}

digit-goes : (n b : ℕ) (bs : List ℕ) → 48 ≤ b → b ≤ 57 → n < 1000 → digits_from n (b ∷ bs) ≡ digits_from (n * 10 + (b - 48)) bs
unfolding digits_from
digit-goes n b bs p q r = rw (le-leb 48 b p, le-leb b 57 q, lt-ltb n 1000 r)

digit-below : (n b : ℕ) (bs : List ℕ) → b < 48 → digits_from n (b ∷ bs) ≡ None
unfolding digits_from
digit-below n b bs p = rw (lt-leb 48 b p)

digit-above : (n b : ℕ) (bs : List ℕ) → 57 < b → digits_from n (b ∷ bs) ≡ None
unfolding digits_from
digit-above n b bs p = rw (lt-leb b 57 p, and-false (leb 48 b))

digit-over : (n b : ℕ) (bs : List ℕ) → 1000 ≤ n → digits_from n (b ∷ bs) ≡ None
unfolding digits_from
digit-over n b bs p = rw (le-ltb n 1000 p, and-false (leb 48 b && leb b 57))

-- the loop: the digits that are left go on from the number so far
module _ (s : List ℕ) (n at : ℕ) (so : digits_from n (drop at s) ≡ digits_from 0 s) where
  pub digits-end : length s ≤ at → Some n ≡ number_told (digits_from 0 s)
  unfolding digits_from
  digits-end h = ap number_told (sym (ap (digits_from n) (drop_of_length-le s h)) ∙ so)

  module _ (h : at < length s) where
    here : digits_from n (drop at s) ≡ digits_from n (get_or s at 0 ∷ drop (at + 1) s)
    here = ap (digits_from n) (at_place s at h)

    pub digits_step : (get_or s at 0 < 48 → ⊥) → (57 < get_or s at 0 → ⊥) → (1000 ≤ n → ⊥) → digits_from (n * 10 + (get_or s at 0 - 48)) (drop (at + 1) s) ≡ digits_from 0 s
    digits_step p q r =
        sym (digit-goes n (get_or s at 0) (drop (at + 1) s) (omega (arith, p)) (omega (arith, q)) (omega (arith, r))) ∙ sym here ∙ so

    pub digits-below : get_or s at 0 < 48 → None ≡ number_told (digits_from 0 s)
    digits-below p = ap number_told (sym (digit-below n (get_or s at 0) (drop (at + 1) s) p) ∙ sym here ∙ so)

    pub digits_above : 57 < get_or s at 0 → None ≡ number_told (digits_from 0 s)
    digits_above p = ap number_told (sym (digit-above n (get_or s at 0) (drop (at + 1) s) p) ∙ sym here ∙ so)

    pub digits-over : 1000 ≤ n → None ≡ number_told (digits_from 0 s)
    digits-over p = ap number_told (sym (digit-over n (get_or s at 0) (drop (at + 1) s) p) ∙ sym here ∙ so)

pub number-empty : (s : List ℕ) → length s ≡ 0 → None ≡ number_told (numeral s)
unfolding numeral
number-empty [] h = refl
number-empty (b ∷ bs) h = absurd (omega arith)

pub number_digits : (s : List ℕ) (r : Option ℕ) → (length s ≡ 0 → ⊥) → (get_or s 0 0 ≡ 48 → ⊥) → r ≡ number_told (digits_from 0 s) → r ≡ number_told (numeral s)
unfolding numeral
number_digits [] r h z e = absurd (h refl)
number_digits (b ∷ bs) r h z e = rw (ne_eqb b 48 z) e

pub number-zero : (s : List ℕ) → get_or s 0 0 ≡ 48 → length s ≡ 1 → Some 0 ≡ number_told (numeral s)
unfolding numeral
number-zero [] z h = absurd (omega arith)
number-zero (b ∷ []) z h = rw (eq-eqb b 48 z)
number-zero (b ∷ d ∷ bs) z h = absurd (omega arith)

pub number_leading : (s : List ℕ) → (length s ≡ 0 → ⊥) → get_or s 0 0 ≡ 48 → (length s ≡ 1 → ⊥) → None ≡ number_told (numeral s)
unfolding numeral
number_leading [] l z h = absurd (l refl)
number_leading (b ∷ []) l z h = absurd (h refl)
number_leading (b ∷ d ∷ bs) l z h = rw (eq-eqb b 48 z)

-- what a told number was told of
pub told_is : (o : Option ℕ) (n : ℕ) → Some n ≡ number_told o → o ≡ Some n
told_is None n h = let z : ◌≡◌ {A = ℕ} 0 1 = cc in absurd (omega arith)
told_is (Some m) n h = let e : m ≡ n = cc in ap Some e

pub told-other : (o : Option ℕ) → None ≡ number_told o → o ≡ None
told-other None h = refl
told-other (Some m) h = let z : ◌≡◌ {A = ℕ} 0 1 = cc in absurd (omega arith)

-- the decimal text of a number and one more digit
decimal-more : (n d : ℕ) → 1 ≤ n → n < 1000 → d < 10 → decimal (n * 10 + d) ≡ decimal n ++ ((48 + d) ∷ [])
unfolding decimal last_digits
decimal-more n d p q r =
    let c : digit_count (n * 10 + d) ≡ suc (digit_count ((n * 10 + d) / 10)) = count-more (n * 10 + d) (omega arith) (omega arith) in
    let h : (n * 10 + d) / 10 ≡ n = omega arith in
    let m : (n * 10 + d) % 10 ≡ d = omega arith in
    ap (λ (k : ℕ). last_digits k (n * 10 + d)) (c ∙ ap (λ (k : ℕ). suc (digit_count k)) h)
    ∙ ap₂ (λ (x y : ℕ). last_digits (digit_count n) x ++ ((48 + y) ∷ [])) h m

decimal-one : (n : ℕ) → n < 10 → decimal n ≡ (48 + n) ∷ []
unfolding decimal last_digits
decimal-one n h =
    let m : n % 10 ≡ n = omega arith in
    ap (λ (k : ℕ). last_digits k n) (count-one n h) ∙ ap (λ (k : ℕ). (48 + k) ∷ []) m

-- what is read is written so
record Digits (n b : ℕ) : Type 0 where
  least : 48 ≤ b
  most : b ≤ 57
  small : n < 1000

digit-told : (n b : ℕ) (bs : List ℕ) (m : ℕ) → digits_from n (b ∷ bs) ≡ Some m → Digits n b
digit-told n b bs m h =
    by_order b 48
    (λ p. absurd (none-some (sym (digit-below n b bs p) ∙ h)))
    (λ p. by_order 57 b
    (λ q. absurd (none-some (sym (digit-above n b bs q) ∙ h)))
    (λ q. by_order n 1000
    (λ r. record { least = p; most = q; small = r })
    (λ r. absurd (none-some (sym (digit-over n b bs r) ∙ h)))))
  where
    none-some : None ≡ Some m → ⊥
    none-some q = let z : ◌≡◌ {A = ℕ} 0 1 = cc in omega arith

digits-sound : (n : ℕ) (w : List ℕ) (m : ℕ) → 1 ≤ n → digits_from n w ≡ Some m → decimal m ≡ decimal n ++ w
unfolding digits_from
digits-sound n [] m p h = let e : n ≡ m = cc in ap decimal (sym e) ∙ sym (append-nil (decimal n))
digits-sound n (b ∷ bs) m p h =
    let t = digit-told n b bs m h in
    let l = t.least in
    let u = t.most in
    let q = t.small in
    let e : 48 + (b - 48) ≡ b = omega arith in
    digits-sound (n * 10 + (b - 48)) bs m (omega arith) (sym (digit-goes n b bs l u q) ∙ h)
    ∙ ap (λ (x : List ℕ). x ++ bs) (decimal-more n (b - 48) p q (omega arith) ∙ ap (λ (x : ℕ). decimal n ++ (x ∷ [])) e)
    ∙ append_snoc (decimal n) b bs

pub numeral-sound : (w : List ℕ) (n : ℕ) → numeral w ≡ Some n → decimal n ≡ w
unfolding numeral
numeral-sound [] n h = let z : ◌≡◌ {A = ℕ} 0 1 = cc in absurd (omega arith)
numeral-sound (b ∷ bs) n h =
    by_test (eqb b 48)
    (λ e. zero-alone bs (eqb-true b 48 e) (ap (λ (t : Bool). cond t (alone bs) (digits_from 0 (b ∷ bs))) (sym e) ∙ h))
    (λ e. from_first (eqb-false b 48 e) (ap (λ (t : Bool). cond t (alone bs) (digits_from 0 (b ∷ bs))) (sym e) ∙ h))
  where
    zero-alone : (cs : List ℕ) → b ≡ 48 → alone cs ≡ Some n → decimal n ≡ b ∷ cs
    zero-alone [] e q = let z : 0 ≡ n = cc in ap decimal (sym z) ∙ decimal-one 0 (omega arith) ∙ ap (λ (x : ℕ). x ∷ []) (sym e)
    zero-alone (c ∷ cs) e q = let z : ◌≡◌ {A = ℕ} 0 1 = cc in absurd (omega arith)

    from_first : (b ≡ 48 → ⊥) → digits_from 0 (b ∷ bs) ≡ Some n → decimal n ≡ b ∷ bs
    from_first e q =
        let t = digit-told 0 b bs n q in
        let l = t.least in
        let u = t.most in
        let f : 1 ≤ b - 48 = by_order 48 b (λ g. omega arith) (λ g. absurd (e (omega arith))) in
        let z : 0 * 10 + (b - 48) ≡ b - 48 = omega arith in
        let k : 48 + (b - 48) ≡ b = omega arith in
        digits-sound (b - 48) bs n f (ap (λ (x : ℕ). digits_from x bs) (sym z) ∙ sym (digit-goes 0 b bs l u (omega arith)) ∙ q)
        ∙ ap (λ (x : List ℕ). x ++ bs) (decimal-one (b - 48) (omega arith) ∙ ap (λ (x : ℕ). x ∷ []) k)

-- what is written so is read
digits_last : (k : ℕ) (w : List ℕ) (n d : ℕ) → digits_from k w ≡ Some n → n < 1000 → d < 10 → digits_from k (w ++ ((48 + d) ∷ [])) ≡ Some (n * 10 + d)
unfolding digits_from
digits_last k [] n d h p q =
    let e : k ≡ n = cc in
    let m : k * 10 + (48 + d - 48) ≡ n * 10 + d = omega arith in
    digit-goes k (48 + d) [] (omega arith) (omega arith) (omega arith) ∙ ap Some m
digits_last k (b ∷ bs) n d h p q =
    let t = digit-told k b bs n h in
    let l = t.least in
    let u = t.most in
    let s = t.small in
    digit-goes k b (bs ++ ((48 + d) ∷ [])) l u s ∙ digits_last (k * 10 + (b - 48)) bs n d (sym (digit-goes k b bs l u s) ∙ h) p q

numeral-last : (w : List ℕ) (n d : ℕ) → numeral w ≡ Some n → 1 ≤ n → n < 1000 → d < 10 → numeral (w ++ ((48 + d) ∷ [])) ≡ Some (n * 10 + d)
unfolding numeral
numeral-last [] n d h o p q = let z : ◌≡◌ {A = ℕ} 0 1 = cc in absurd (omega arith)
numeral-last (b ∷ bs) n d h o p q =
    by_test (eqb b 48)
    (λ e. absurd (not-alone bs (ap (λ (t : Bool). cond t (alone bs) (digits_from 0 (b ∷ bs))) (sym e) ∙ h)))
    (λ e. rw e (digits_last 0 (b ∷ bs) n d (ap (λ (t : Bool). cond t (alone bs) (digits_from 0 (b ∷ bs))) (sym e) ∙ h) p q))
  where
    not-alone : (cs : List ℕ) → alone cs ≡ Some n → ⊥
    not-alone [] e = let z : 0 ≡ n = cc in omega arith
    not-alone (c ∷ cs) e = let z : ◌≡◌ {A = ℕ} 0 1 = cc in omega arith

read_one : (n : ℕ) → n < 10 → numeral (decimal n) ≡ Some n
unfolding numeral digits_from
read_one n h =
    ap numeral (decimal-one n h)
    ∙ by_order 0 n
    (λ p.
    let m : 0 * 10 + (48 + n - 48) ≡ n = omega arith in
    rw (ne_eqb (48 + n) 48 (λ e. omega arith)) (digit-goes 0 (48 + n) [] (omega arith) (omega arith) (omega arith) ∙ ap Some m))
    (λ p. let z : n ≡ 0 = omega arith in rw z)

read_more : (most : ℕ) → most ≤ 1000 → ((n : ℕ) → n < most → numeral (decimal n) ≡ Some n) → (n : ℕ) → n < most * 10 → numeral (decimal n) ≡ Some n
read_more most b f n h =
    by_order n 10
    (λ p. read_one n p)
    (λ p.
    let e : n / 10 * 10 + n % 10 ≡ n = omega arith in
    ap (λ (k : ℕ). numeral (decimal k)) (sym e)
    ∙ ap numeral (decimal-more (n / 10) (n % 10) (omega arith) (omega arith) (omega arith))
    ∙ numeral-last (decimal (n / 10)) (n / 10) (n % 10) (f (n / 10) (omega arith)) (omega arith) (omega arith) (omega arith)
    ∙ ap Some e)

pub numeral-back : (n : ℕ) → n < 10000 → numeral (decimal n) ≡ Some n
numeral-back n h = read_more 1000 (omega arith) (read_more 100 (omega arith) (read_more 10 (omega arith) read_one)) n h
