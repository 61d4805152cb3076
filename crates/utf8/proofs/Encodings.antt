-- RFC 3629, section 3: what holds of the encoding of every code point.
-- Assumes nothing.
use mathlib.Core.Path.{◌≡◌, refl, sym, ap, ◌∙◌, subst}
use mathlib.Core.Logic.{◌↔◌, ◌⊎◌, inl, inr}
use mathlib.Core.Bool.{Bool, true, false, false≢true, true≢false}
use mathlib.Core.List.{List, [], ◌∷◌, append-nil, Memᴰ}
use Prim.Native.Nat.{ℕ, zero, suc, ◌+◌, ◌-◌, ◌*◌, ◌/◌, ◌%◌, ◌≤◌, ◌<◌}
use native.Mathlib.Omega.{arith}
use lib.Dec.{leb, ltb}
use lib.ListN.{length, get_or}
use borrow.Author.Tests.{lt-ltb, le-ltb, le-leb, lt-leb, ltb-true, ltb-false, leb-false}
use Rattle.utf8.specs.declared.Encoded.{Encoded}
use Rattle.utf8.specs.declared.Encoded.TheVariants.{One, Two, Three, Four, NoEncoding}
use Rattle.utf8.specs.Rows.{Span, rows}
use Rattle.utf8.specs.Octets.{Sequence, Concatenation, none, more, utf8}
use Rattle.utf8.specs.Encoding.{scalar, encoded, bytes_of}
use Rattle.utf8.proofs.Concatenations.{utf8-means, utf8_nil}

pub scalar-low : (n : ℕ) → n < 0xD800 → true ≡ scalar n
unfolding scalar
scalar-low n h = rw (lt-ltb n 0xD800 h)

pub scalar-surrogate : (n : ℕ) → 0xD800 ≤ n → n < 0xE000 → false ≡ scalar n
unfolding scalar
scalar-surrogate n l u = rw (le-ltb n 0xD800 l) (rw (lt-leb 0xE000 n u))

pub scalar-high : (n : ℕ) → 0xE000 ≤ n → leb n 0x10FFFF ≡ scalar n
unfolding scalar
scalar-high n l = rw (le-ltb n 0xD800 (omega arith)) (rw (le-leb 0xE000 n l))

-- a number is below another or not
either : {R : Type 0} (a b : ℕ) → (a < b → R) → (b ≤ a → R) → R
either {R} a b f g = go (ltb a b) refl
  where
    go : (t : Bool) → ltb a b ≡ t → R
    go true e = f (ltb-true a b e)
    go false e = g (ltb-false a b e)

pub scalar-top : (n : ℕ) → scalar n ≡ true → n ≤ 0x10FFFF
scalar-top n h = either 0x10FFFF n
    (λ l. absurd (false≢true (sym (lt-leb n 0x10FFFF l) ∙ scalar-high n (omega arith) ∙ h)))
    (λ u. u)

pub scalar-apart : (n : ℕ) → scalar n ≡ true → 0xD800 ≤ n → 0xE000 ≤ n
scalar-apart n h l = either n 0xE000 (λ u. absurd (false≢true (scalar-surrogate n l u ∙ h))) (λ u. u)

pub no-scalar : (n : ℕ) → (scalar n ≡ false) ↔ (((0xD800 ≤ n) × (n ≤ 0xDFFF)) ⊎ (0x10FFFF < n))
no-scalar n = (there, back)
  where
    there : scalar n ≡ false → ((0xD800 ≤ n) × (n ≤ 0xDFFF)) ⊎ (0x10FFFF < n)
    there h = either n 0xD800 (λ l. absurd (true≢false (scalar-low n l ∙ h)))
        (λ l. either n 0xE000 (λ u. inl (l, omega arith)) (λ u. inr (leb-false n 0x10FFFF (scalar-high n u ∙ h))))

    back : ((0xD800 ≤ n) × (n ≤ 0xDFFF)) ⊎ (0x10FFFF < n) → scalar n ≡ false
    back (inl p) = sym (scalar-surrogate n p.0 (omega arith))
    back (inr u) = sym (scalar-high n (omega arith)) ∙ lt-leb n 0x10FFFF u

module _ (n : ℕ) where
  pub encoded-one : n < 0x80 → One n ≡ encoded n
  unfolding encoded
  encoded-one h = rw (← scalar-low n (omega arith)) (rw (lt-ltb n 0x80 h))

  pub encoded-two : 0x80 ≤ n → n < 0x800 → Two (0xC0 + n / 64) (0x80 + n % 64) ≡ encoded n
  unfolding encoded
  encoded-two l h = rw (← scalar-low n (omega arith)) (rw (le-ltb n 0x80 l) (rw (lt-ltb n 0x800 h)))

  pub encoded-three : 0x800 ≤ n → n < 0x10000 → scalar n ≡ true → Three (0xE0 + n / 4096) (0x80 + n / 64 % 64) (0x80 + n % 64) ≡ encoded n
  unfolding encoded
  encoded-three l h s = rw s (rw (le-ltb n 0x80 (omega arith)) (rw (le-ltb n 0x800 l) (rw (lt-ltb n 0x10000 h))))

  pub encoded-four : 0x10000 ≤ n → scalar n ≡ true
      → Four (0xF0 + n / 262144) (0x80 + n / 4096 % 64) (0x80 + n / 64 % 64) (0x80 + n % 64) ≡ encoded n
  unfolding encoded
  encoded-four l s = rw s (rw (le-ltb n 0x80 (omega arith)) (rw (le-ltb n 0x800 (omega arith)) (rw (le-ltb n 0x10000 l))))

  pub encoded-none : scalar n ≡ false → NoEncoding ≡ encoded n
  unfolding encoded
  encoded-none s = rw s

-- what holds in each of the five cases holds of the encoding
pub by_size : (P : Encoded → Type 0) (n : ℕ)
    → (n < 0x80 → P (One n))
    → (0x80 ≤ n → n < 0x800 → P (Two (0xC0 + n / 64) (0x80 + n % 64)))
    → (0x800 ≤ n → n < 0x10000 → scalar n ≡ true → P (Three (0xE0 + n / 4096) (0x80 + n / 64 % 64) (0x80 + n % 64)))
    → (0x10000 ≤ n → scalar n ≡ true → P (Four (0xF0 + n / 262144) (0x80 + n / 4096 % 64) (0x80 + n / 64 % 64) (0x80 + n % 64)))
    → (scalar n ≡ false → P NoEncoding)
    → P (encoded n)
by_size P n one two three four lacks =
    either n 0x80 (λ h. subst P (encoded-one n h) (one h))
    (λ l. either n 0x800 (λ h. subst P (encoded-two n l h) (two l h)) (λ m. go (scalar n) refl m))
  where
    go : (t : Bool) → scalar n ≡ t → 0x800 ≤ n → P (encoded n)
    go true s m =
        either n 0x10000 (λ h. subst P (encoded-three n m h s) (three m h s)) (λ h. subst P (encoded-four n h s) (four h s))
    go false s m = subst P (encoded-none n s) (lacks s)

listed : (rs : List (List Span)) (k : ℕ) → k < length rs → Memᴰ (get_or rs k []) rs
listed [] k h = absurd (omega arith)
listed (r ∷ rs) zero h = Memᴰ.head refl
listed (r ∷ rs) (suc k) h = Memᴰ.tail (listed rs k (omega arith))

pub row-utf8 : (k : ℕ) (s : List ℕ) → k < length rows → Sequence (get_or rows k []) s → utf8 s ≡ true
row-utf8 k s h q = (utf8-means s).1 (subst (λ (l : List ℕ). Concatenation l) (append-nil s) (more s (listed rows k h) q none))

pub encodes_utf8 : (n : ℕ) → utf8 (bytes_of (encoded n)) ≡ true
encodes_utf8 n =
    by_size (λ e. utf8 (bytes_of e) ≡ true) n
    (λ h. row-utf8 0 (n ∷ []) (omega arith) (omega arith))
    (λ l h. row-utf8 1 ((0xC0 + n / 64) ∷ (0x80 + n % 64) ∷ []) (omega arith) (omega arith))
    (λ l h s. three l h s)
    (λ l s. four l (scalar-top n s))
    (λ s. utf8_nil)
  where
    three : 0x800 ≤ n → n < 0x10000 → scalar n ≡ true → utf8 ((0xE0 + n / 4096) ∷ (0x80 + n / 64 % 64) ∷ (0x80 + n % 64) ∷ []) ≡ true
    three l h s =
        either n 0x1000 (λ a. row-utf8 2 _ (omega arith) (omega arith))
        (λ a. either n 0xD000 (λ b. row-utf8 3 _ (omega arith) (omega arith))
        (λ b. either n 0xD800 (λ c. row-utf8 4 _ (omega arith) (omega arith))
        (λ c. let d = scalar-apart n s c in row-utf8 5 _ (omega arith) (omega arith))))

    four : 0x10000 ≤ n → n ≤ 0x10FFFF
        → utf8 ((0xF0 + n / 262144) ∷ (0x80 + n / 4096 % 64) ∷ (0x80 + n / 64 % 64) ∷ (0x80 + n % 64) ∷ []) ≡ true
    four l h =
        either n 0x40000 (λ a. row-utf8 6 _ (omega arith) (omega arith))
        (λ a. either n 0x100000 (λ b. row-utf8 7 _ (omega arith) (omega arith)) (λ b. row-utf8 8 _ (omega arith) (omega arith)))

-- m bytes are enough where they are for the row of n
encoded-length-by : (n m : ℕ) → 1 ≤ m → (0x80 ≤ n → 2 ≤ m) → (0x800 ≤ n → 3 ≤ m) → (0x10000 ≤ n → 4 ≤ m) → length (bytes_of (encoded n)) ≤ m
encoded-length-by n m one two three four =
    by_size (λ e. length (bytes_of e) ≤ m) n (λ h. one) (λ l h. two l) (λ l h s. three l) (λ l s. four l) (λ s. omega arith)

pub encoded-length_le : (n : ℕ) → length (bytes_of (encoded n)) ≤ 4
encoded-length_le n = encoded-length-by n 4 (omega arith) (omega arith) (omega arith) (omega arith)

pub encoded-length-two : (n : ℕ) → n < 0x800 → length (bytes_of (encoded n)) ≤ 2
encoded-length-two n u = encoded-length-by n 2 (omega arith) (omega arith) (omega arith) (omega arith)

-- each octet is from a to z
abbrev pub Between : ℕ → ℕ → List ℕ → Type 0
Between a z [] = Unit {0}
Between a z (b ∷ bs) = (a ≤ b) × (b ≤ z) × Between a z bs

pub between-at : (a z : ℕ) (s : List ℕ) (k : ℕ) → Between a z s → k < length s → (a ≤ get_or s k 0) × (get_or s k 0 ≤ z)
between-at a z [] k h l = absurd (omega arith)
between-at a z (b ∷ bs) zero h l = (h.0, h.1)
between-at a z (b ∷ bs) (suc k) h l = between-at a z bs k h.2 (omega arith)

pub some_bytes : (n : ℕ) → scalar n ≡ true → 0 < length (bytes_of (encoded n))
some_bytes n t =
    by_size (λ e. 0 < length (bytes_of e)) n (λ h. omega arith) (λ l h. omega arith) (λ l h s. omega arith) (λ l s. omega arith)
    (λ s. absurd (true≢false (sym t ∙ s)))

pub no_bytes : (n : ℕ) → (length (bytes_of (encoded n)) ≡ 0) ↔ (scalar n ≡ false)
no_bytes n = (λ e. go (scalar n) refl e, λ s. ap (λ x. length (bytes_of x)) (sym (encoded-none n s)))
  where
    go : (t : Bool) → scalar n ≡ t → length (bytes_of (encoded n)) ≡ 0 → t ≡ false
    go true s e = absurd (omega (arith, some_bytes n s))
    go false s e = refl

pub none_exactly : (n : ℕ) → (encoded n ≡ NoEncoding) ↔ (scalar n ≡ false)
none_exactly n = (λ e. (no_bytes n).0 (ap (λ x. length (bytes_of x)) e), λ s. sym (encoded-none n s))

-- the way back: the number that the bytes stand for
point_of : List ℕ → ℕ
point_of [] = 0
point_of (a ∷ []) = a
point_of (a ∷ b ∷ []) = (a - 0xC0) * 64 + (b - 0x80)
point_of (a ∷ b ∷ c ∷ []) = (a - 0xE0) * 4096 + (b - 0x80) * 64 + (c - 0x80)
point_of (a ∷ b ∷ c ∷ d ∷ _) = (a - 0xF0) * 262144 + (b - 0x80) * 4096 + (c - 0x80) * 64 + (d - 0x80)

back : (n : ℕ) → scalar n ≡ true → point_of (bytes_of (encoded n)) ≡ n
unfolding point_of
back n t =
    by_size (λ e. point_of (bytes_of e) ≡ n) n (λ h. refl) (λ l h. omega arith) (λ l h s. omega arith)
    (λ l s.
    let p : n / 4096 ≡ n / 64 / 64 = omega arith in
    let q : n / 262144 ≡ n / 4096 / 64 = omega arith in
    omega arith)
    (λ s. absurd (true≢false (sym t ∙ s)))

pub encoded-tells : (m n : ℕ) → scalar m ≡ true → scalar n ≡ true → bytes_of (encoded m) ≡ bytes_of (encoded n) → m ≡ n
encoded-tells m n s t e = sym (back m s) ∙ ap point_of e ∙ back n t
