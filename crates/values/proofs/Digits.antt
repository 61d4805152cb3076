-- Runs of digits: of which bytes they are, and that they tell numbers and texts apart.
-- Assumes nothing.
use mathlib.Core.Path.{◌≡◌, refl, ap, ap₂, sym, ◌∙◌, subst}
use mathlib.Core.Bool.{Bool, true, false, ◌||◌, or-true, true≢false, false≢true}
use mathlib.Core.List.{List, [], ◌∷◌, ◌++◌, nil≢cons, cons≢nil, head-eq_of_cons-eq, tail-eq_of_cons-eq}
use Prim.Native.Nat.{ℕ, zero, suc, ◌+◌, ◌*◌, ◌<◌, ◌≤◌, ◌/◌, ◌%◌, ◌^◌}
use native.Mathlib.Omega.{arith}
use native.Mathlib.Nat.{pow-suc, lt_of_lt_of_le}
use native.Mathlib.Bridge.{le_by_compare, IsLe}
use lib.Dec.{ltb, eqb, lit≤, leb→le, ltb→lt}
use lib.IntN.{ℤ, pos, negsuc}
use borrow.Author.Tests.{ltb-true, ltb-false}
use Rattle.ground.specs.Lists.{all}
use Rattle.ground.proofs.Tests.{by_test, both_left, both_right, both}
use Rattle.utf8.specs.Octets.{utf8}
use Rattle.words.specs.Radix.{within}
use Rattle.words.specs.Run.{number}
use Rattle.words.proofs.Worths.{inside}
use Rattle.decimals.specs.Decimal.{last_digits, digit_count, decimal, signed_decimal}
use Rattle.decimals.proofs.Values.{decimal-number}
use Rattle.values.specs.Text.{hex_digit, hex, hex_text, hex_width}
pub use Rattle.values.specs.Plain.{InWord}
use Rattle.values.specs.Plain.{is_byte}
use Rattle.values.proofs.Alls.{all_append, all-by}
use Rattle.values.proofs.Bytes.{utf8-bytes}

-- `0` to `9` and `a` to `f`
abbrev pub is_hex_digit : ℕ → Bool
is_hex_digit b = within 48 57 b || within 97 102 b

-- the bytes of a run: a minus sign and digits
abbrev pub in_run : ℕ → Bool
in_run b = eqb b 45 || is_hex_digit b

-- what a run ends before
abbrev pub Ends : List ℕ → Type 0
Ends [] = Unit {0}
Ends (b ∷ bs) = in_run b ≡ false

or_right : (a b : Bool) → b ≡ true → (a || b) ≡ true
or_right a b e = ap (λ (t : Bool). a || t) e ∙ or-true a

pub run_of : (ds : List ℕ) → all is_hex_digit ds ≡ true → all in_run ds ≡ true
run_of ds h = all-by is_hex_digit in_run (λ b k. or_right (eqb b 45) (is_hex_digit b) k) ds h

-- a run and what does not go on with it
pub split-run : (ds es a b : List ℕ) → all in_run ds ≡ true → all in_run es ≡ true → Ends a → Ends b → ds ++ a ≡ es ++ b → (ds ≡ es) × (a ≡ b)
unfolding all
split-run [] [] a b p q f g e = (refl, e)
split-run [] (y ∷ es) [] b p q f g e = absurd (nil≢cons e)
split-run [] (y ∷ es) (x ∷ a) b p q f g e =
    absurd (true≢false (sym (both_left (in_run y) (all in_run es) q) ∙ ap in_run (sym (head-eq_of_cons-eq e)) ∙ f))
split-run (x ∷ ds) [] a [] p q f g e = absurd (cons≢nil e)
split-run (x ∷ ds) [] a (y ∷ b) p q f g e =
    absurd (true≢false (sym (both_left (in_run x) (all in_run ds) p) ∙ ap in_run (head-eq_of_cons-eq e) ∙ g))
split-run (x ∷ ds) (y ∷ es) a b p q f g e =
    let w = split-run ds es a b (both_right (in_run x) (all in_run ds) p) (both_right (in_run y) (all in_run es) q) f g (tail-eq_of_cons-eq e) in
    (ap₂ {C = List ℕ} (λ (h : ℕ) (t : List ℕ). h ∷ t) (head-eq_of_cons-eq e) w.0, w.1)

-- a last digit
no_last : (xs : List ℕ) (x : ℕ) → ◌≡◌ {A = List ℕ} [] (xs ++ (x ∷ [])) → ⊥
no_last [] x e = nil≢cons e
no_last (y ∷ xs) x e = nil≢cons e

last-same : (xs ys : List ℕ) (x y : ℕ) → xs ++ (x ∷ []) ≡ ys ++ (y ∷ []) → (xs ≡ ys) × (x ≡ y)
last-same [] [] x y e = (refl, head-eq_of_cons-eq e)
last-same [] (b ∷ ys) x y e = absurd (no_last ys y (tail-eq_of_cons-eq e))
last-same (a ∷ xs) [] x y e = absurd (no_last xs x (sym (tail-eq_of_cons-eq e)))
last-same (a ∷ xs) (b ∷ ys) x y e =
    let w = last-same xs ys x y (tail-eq_of_cons-eq e) in
    (ap₂ {C = List ℕ} (λ (h : ℕ) (t : List ℕ). h ∷ t) (head-eq_of_cons-eq e) w.0, w.1)

pub is_digit : (d : ℕ) → d < 16 → is_hex_digit (hex_digit d) ≡ true
unfolding hex_digit
is_digit d h =
    by_test (ltb d 10)
    (λ k. let l = ltb-true d 10 k in rw k (rw (inside 48 57 (48 + d) (omega arith) (omega arith))))
    (λ k. let l = ltb-false d 10 k in rw k (or_right (within 48 57 (87 + d)) _ (inside 97 102 (87 + d) (omega arith) (omega arith))))

digit-same : (a b : ℕ) → hex_digit a ≡ hex_digit b → a ≡ b
unfolding hex_digit
digit-same a b e =
    by_test (ltb a 10)
    (λ h. by_test (ltb b 10)
    (λ k. let z : 48 + a ≡ 48 + b = rw (h, k) at e in omega arith)
    (λ k. let z : 48 + a ≡ 87 + b = rw (h, k) at e in let p = ltb-true a 10 h in absurd (omega arith)))
    (λ h. by_test (ltb b 10)
    (λ k. let z : 87 + a ≡ 48 + b = rw (h, k) at e in let q = ltb-true b 10 k in absurd (omega arith))
    (λ k. let z : 87 + a ≡ 87 + b = rw (h, k) at e in omega arith))

-- two digits a byte
pub bytes-digits : (s : List ℕ) → all is_byte s ≡ true → all is_hex_digit (hex_text s) ≡ true
unfolding hex_text all
bytes-digits [] p = refl
bytes-digits (b ∷ bs) p =
    let l = ltb-true b 256 (both_left (ltb b 256) (all is_byte bs) p) in
    both (is_digit (b / 16) (omega arith)) (both (is_digit (b % 16) (omega arith)) (bytes-digits bs (both_right (ltb b 256) (all is_byte bs) p)))

pub hex_text-digits : (s : List ℕ) → utf8 s ≡ true → all is_hex_digit (hex_text s) ≡ true
hex_text-digits s p = bytes-digits s (utf8-bytes s p)

pub hex_text-same : (s t : List ℕ) → hex_text s ≡ hex_text t → s ≡ t
unfolding hex_text
hex_text-same [] [] e = refl
hex_text-same [] (c ∷ t) e = absurd (nil≢cons e)
hex_text-same (b ∷ s) [] e = absurd (cons≢nil e)
hex_text-same (b ∷ s) (c ∷ t) e =
    let p = digit-same _ _ (head-eq_of_cons-eq e) in
    let q = digit-same _ _ (head-eq_of_cons-eq (tail-eq_of_cons-eq e)) in
    let r : b ≡ c = omega arith in
    ap₂ {C = List ℕ} (λ (h : ℕ) (k : List ℕ). h ∷ k) r (hex_text-same s t (tail-eq_of_cons-eq (tail-eq_of_cons-eq e)))

-- the digits of a bit vector
pub hex-digits : (k n : ℕ) → all is_hex_digit (hex k n) ≡ true
unfolding hex all
hex-digits zero n = refl
hex-digits (suc k) n = all_append is_hex_digit (hex k (n / 16)) _ (hex-digits k (n / 16)) (both (is_digit (n % 16) (omega arith)) refl)

hex-same : (k n m : ℕ) → n < 16 ^ k → m < 16 ^ k → hex k n ≡ hex k m → n ≡ m
unfolding hex
hex-same zero n m p q e = omega arith
hex-same (suc k) n m p q e =
    let p' : n < 16 ^ k * 16 = rw (pow-suc 16 k) at p in
    let q' : m < 16 ^ k * 16 = rw (pow-suc 16 k) at q in
    let w = last-same (hex k (n / 16)) (hex k (m / 16)) _ _ e in
    let r = hex-same k (n / 16) (m / 16) (omega arith) (omega arith) w.0 in
    let s = digit-same _ _ w.1 in
    omega arith

-- the width's digits hold it
wide : (w : ℕ) → 2 ^ w ≤ 16 ^ hex_width w
unfolding IsLe
wide zero = le_by_compare _ _ tt
wide (suc zero) = le_by_compare _ _ tt
wide (suc (suc zero)) = le_by_compare _ _ tt
wide (suc (suc (suc zero))) = le_by_compare _ _ tt
wide (suc (suc (suc (suc w)))) =
    let h = wide w in
    let e : (suc (suc (suc (suc w))) + 3) / 4 ≡ suc ((w + 3) / 4) = omega arith in
    rw (e, pow-suc 16 ((w + 3) / 4), pow-suc 2 (suc (suc (suc w))), pow-suc 2 (suc (suc w)), pow-suc 2 (suc w), pow-suc 2 w) (omega arith)

pub bits-same : (w u n m : ℕ) → w ≡ u → n < 2 ^ w → m < 2 ^ u → hex (hex_width w) n ≡ hex (hex_width u) m → n ≡ m
bits-same w u n m h p q e =
    let k = subst (λ (i : ℕ). (m < 2 ^ i) × (hex (hex_width w) n ≡ hex (hex_width i) m)) (sym h) (q, e) in
    hex-same (hex_width w) n m (lt_of_lt_of_le p (wide w)) (lt_of_lt_of_le k.0 (wide w)) k.1

-- decimal
decimal-within : (n : ℕ) → all (within 48 57) (decimal n) ≡ true
unfolding decimal last_digits all
decimal-within n = last_within (digit_count n) n
  where
    last_within : (k n : ℕ) → all (within 48 57) (last_digits k n) ≡ true
    last_within zero n = refl
    last_within (suc k) n =
        all_append (within 48 57) (last_digits k (n / 10)) _ (last_within k (n / 10)) (both (inside 48 57 (48 + n % 10) (omega arith) (omega arith)) refl)

pub decimal-digits : (n : ℕ) → all is_hex_digit (decimal n) ≡ true
decimal-digits n = all-by (within 48 57) is_hex_digit (λ b h. rw h refl) (decimal n) (decimal-within n)

pub signed-run : (z : ℤ) → all in_run (signed_decimal z) ≡ true
unfolding signed_decimal all
signed-run (pos n) = run_of (decimal n) (decimal-digits n)
signed-run (negsuc n) = run_of (decimal (suc n)) (decimal-digits (suc n))

no_minus : (n : ℕ) (s : List ℕ) → decimal n ≡ 45 ∷ s → ⊥
unfolding all
no_minus n s e = false≢true (subst (λ (d : List ℕ). all (within 48 57) d ≡ true) e (decimal-within n))

pub decimal-same : (n m : ℕ) → n < 2 ^ 64 → m < 2 ^ 64 → decimal n ≡ decimal m → n ≡ m
decimal-same n m p q e = sym (decimal-number n (lt_of_lt_of_le p (lit≤ tt))) ∙ ap (λ (d : List ℕ). number 10 d) e ∙ decimal-number m (lt_of_lt_of_le q (lit≤ tt))

pub signed_same : (y z : ℤ) → InWord y → InWord z → signed_decimal y ≡ signed_decimal z → y ≡ z
unfolding signed_decimal
signed_same (pos n) (pos m) p q e =
    let a = ltb→lt n (2 ^ 63) p.1.lt in
    let b = ltb→lt m (2 ^ 63) q.1.lt in
    ap pos (decimal-same n m (omega arith) (omega arith) e)
signed_same (pos n) (negsuc m) p q e = absurd (no_minus n _ e)
signed_same (negsuc n) (pos m) p q e = absurd (no_minus m _ (sym e))
signed_same (negsuc n) (negsuc m) p q e =
    let a = leb→le n _ p.0.le in
    let b = leb→le m _ q.0.le in
    let r = decimal-same (suc n) (suc m) (omega arith) (omega arith) (tail-eq_of_cons-eq e) in
    ap negsuc (omega arith)
