-- Forms with digits, beside the longest run of digits that `strings` looks at.
-- Assumes nothing.
use Rattle.std.proofs.Common.{None, Option, Some}
use mathlib.Core.Path.{◌≡◌, refl, ap, ◌∙◌}
use mathlib.Core.Bool.{Bool, true, false, cond, ◌&&◌}
use mathlib.Core.List.{List, [], ◌∷◌, ◌++◌}
use Prim.Native.Nat.{ℕ, zero, suc, ◌+◌, ◌*◌, ◌≤◌, ◌<◌}
use native.Mathlib.Omega.{arith}
use lib.Dec.{leb, eqb, lit<, lit≤, eqb-zero-suc, eqb-suc-zero, eqb-suc-suc}
use lib.ListN.{length, take, drop, replicate}
use borrow.Author.Tests.{lt-ltb, le-ltb, le-leb, lt-leb, ne_eqb}
use Rattle.ground.proofs.Tests.{by_order, and-false}
use Rattle.words.specs.Radix.{worth}
use Rattle.words.specs.Run.{from}
use Rattle.strings.specs.Escape.{hex_run, starts_by}
use Rattle.theory.specs.Theory.{Place, digit, closing, d, d₄, number_by}
use Rattle.theory.proofs.Digits.{is-hex, no-hex, hex-worth}
use Rattle.theory.proofs.Sizes.{least, most, bounds}

one-digit : (f : List Place) (n b : ℕ) (bs : List ℕ) → worth b < 16 → number_by (d ∷ f) n (b ∷ bs) ≡ number_by f (n * 16 + worth b) bs
unfolding number_by
one-digit f n b bs h = rw (is-hex b h, hex-worth b h, le-leb (worth b) 15 (omega arith))

no_digit : (m : ℕ) (f : List Place) (n b : ℕ) (bs : List ℕ) → 16 ≤ worth b → number_by (digit m ∷ f) n (b ∷ bs) ≡ None
unfolding number_by
no_digit m f n b bs h = rw (no-hex b h)

brace-worth : worth 0x7D ≡ 16
unfolding worth
brace-worth = refl

-- n digits
pub all_digits : (n v : ℕ) (s : List ℕ)
    → number_by (replicate n d) v s ≡ cond (eqb (length (hex_run (take n s))) n) (Some (from 16 v (take n s))) None
unfolding number_by hex_run from
all_digits zero v [] = refl
all_digits zero v (b ∷ bs) = refl
all_digits (suc n) v [] = rw (eqb-zero-suc n)
all_digits (suc n) v (b ∷ bs) =
    by_order (worth b) 16
    (λ h. one-digit (replicate n d) v b bs h ∙ all_digits n (v * 16 + worth b) bs ∙ rw (lt-ltb (worth b) 16 h, eqb-suc-suc _ n))
    (λ h. no_digit 15 (replicate n d) v b bs h ∙ rw (le-ltb (worth b) 16 h, eqb-zero-suc n))

-- n digits and a closing brace
abbrev pub digits_closed : ℕ → List Place
digits_closed n = replicate n d ++ (closing ∷ [])

-- what that form finds in a run of so many digits, which stands for v, with a brace behind it or not
abbrev pub found : Bool → ℕ → ℕ → ℕ → Option ℕ
found shut long v n = cond (shut && eqb long n) (Some v) None

abbrev pub shut_run : List ℕ → Bool
shut_run s = starts_by 0x7D (drop (length (hex_run s)) s)

closed-digits : (n v : ℕ) (s : List ℕ) → number_by (digits_closed n) v s ≡ found (shut_run s) (length (hex_run s)) (from 16 v (hex_run s)) n
unfolding number_by hex_run from
closed-digits zero v [] = refl
closed-digits (suc n) v [] = refl
closed-digits zero v (b ∷ bs) =
    by_order (worth b) 16
    (λ h.
    let other : b ≡ 0x7D → ⊥ = λ e. let w : worth b ≡ 16 = ap worth e ∙ brace-worth in omega arith in
    rw (ne_eqb b 0x7D other, lt-ltb (worth b) 16 h, eqb-suc-zero (length (hex_run bs)), and-false))
    (λ h. rw (le-ltb (worth b) 16 h) (go (eqb b 0x7D)))
  where
    go : (t : Bool) → cond t (Some v) None ≡ cond (t && true) (Some v) None
    go true = refl
    go false = refl
closed-digits (suc n) v (b ∷ bs) =
    by_order (worth b) 16
    (λ h. one-digit (digits_closed n) v b bs h ∙ closed-digits n (v * 16 + worth b) bs ∙ rw (lt-ltb (worth b) 16 h, eqb-suc-suc _ n))
    (λ h. no_digit 15 (digits_closed n) v b bs h ∙ rw (le-ltb (worth b) 16 h, eqb-zero-suc n, and-false))

-- a number, where it is one of the theory's characters
abbrev pub character : Option ℕ → Option ℕ
character None = None
character (Some x) = cond (leb x 0x2FFFF) (Some x) None

kept : (o : Option ℕ) → ((x : ℕ) → o ≡ Some x → x ≤ 0x2FFFF) → o ≡ character o
kept None f = refl
kept (Some x) f = rw (le-leb x 0x2FFFF (f x refl))

dropped : (o : Option ℕ) → ((x : ℕ) → o ≡ Some x → 0x2FFFF < x) → None ≡ character o
dropped None f = refl
dropped (Some x) f = rw (lt-leb x 0x2FFFF (f x refl))

few-digits : (n high : ℕ) → most (digits_closed n) high ≤ 0x2FFFF → (v : ℕ) (s : List ℕ) → v ≤ high
    → number_by (digits_closed n) v s ≡ character (number_by (digits_closed n) v s)
few-digits n high small v s h = kept (number_by (digits_closed n) v s) (λ x e. let b = bounds (digits_closed n) v v high s x (omega arith) h e in omega arith)

-- to bound the first digit by m is to ask for a character, where a first digit of m + 1 makes the number too great for one
first-digit : (f g : List Place) (m n : ℕ)
    → ((k : ℕ) (s : List ℕ) → k ≤ n * 16 + m → number_by f k s ≡ character (number_by g k s))
    → 0x2FFFF < least g (n * 16 + suc m)
    → (s : List ℕ) → number_by (digit m ∷ f) n s ≡ character (number_by (d ∷ g) n s)
unfolding number_by
first-digit f g m n same great [] = refl
first-digit f g m n same great (b ∷ bs) =
    by_order (worth b) 16
    (λ h. rw (one-digit g n b bs h) (rw (is-hex b h, hex-worth b h) (by_order m (worth b)
    (λ l.
    rw (lt-leb (worth b) m l)
    (dropped (number_by g (n * 16 + worth b) bs)
    (λ x e. let k = bounds g (n * 16 + suc m) (n * 16 + worth b) (n * 16 + worth b) bs x (omega arith) (omega arith) e in omega arith)))
    (λ l. rw (le-leb (worth b) m l) (same (n * 16 + worth b) bs (omega arith))))))
    (λ h. rw (no_digit m f n b bs h, no_digit 15 g n b bs h))

five-digits : (s : List ℕ) → number_by (d₄ ∷ digits_closed 4) 0 s ≡ character (number_by (digits_closed 5) 0 s)
five-digits = first-digit (digits_closed 4) (digits_closed 4) 2 0 (few-digits 4 2 (lit≤ tt)) (lit< tt)

six-digits : (s : List ℕ) → number_by (digit 0 ∷ d₄ ∷ digits_closed 4) 0 s ≡ character (number_by (digits_closed 6) 0 s)
six-digits = first-digit (d₄ ∷ digits_closed 4) (digits_closed 5) 0 0 (λ k s h. let z : k ≡ 0 = omega arith in rw z (five-digits s)) (lit< tt)

-- so each form in braces asks for a run of its length, a brace behind it, and a character
abbrev pub run_found : List ℕ → ℕ → Option ℕ
run_found s n = character (found (shut_run s) (length (hex_run s)) (from 16 0 (hex_run s)) n)

module _ (s : List ℕ) where
  as_run : (n : ℕ) → character (number_by (digits_closed n) 0 s) ≡ run_found s n
  as_run n = ap character (closed-digits n 0 s)

  pub few-run : (n : ℕ) → most (digits_closed n) 0 ≤ 0x2FFFF → number_by (digits_closed n) 0 s ≡ run_found s n
  few-run n h = few-digits n 0 h 0 s (omega arith) ∙ as_run n

  pub five-run : number_by (d₄ ∷ digits_closed 4) 0 s ≡ run_found s 5
  five-run = five-digits s ∙ as_run 5

  pub six-run : number_by (digit 0 ∷ d₄ ∷ digits_closed 4) 0 s ≡ run_found s 6
  six-run = six-digits s ∙ as_run 6
