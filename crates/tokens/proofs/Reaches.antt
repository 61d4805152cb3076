-- What stands at a place takes at least one byte, all of its bytes are there, and its content lies within it.
-- Assumes nothing.
use mathlib.Core.Path.{◌≡◌, refl, sym, ◌∙◌, subst}
use mathlib.Core.Bool.{Bool, true, false, cond, ◌&&◌}
use mathlib.Core.List.{List, [], ◌∷◌}
use Prim.Native.Nat.{ℕ, suc, ◌+◌, ◌≤◌, ◌<◌}
use native.Mathlib.Omega.{arith}
use lib.Dec.{leb, ltb, eqb}
use lib.ListN.{length}
use borrow.Author.Tests.{eqb-true, eqb-false, ltb-true, leb-true, lt-ltb, eq-eqb}
use Rattle.ground.proofs.Tests.{by_test, both_left, both_right}
use Rattle.words.specs.declared.digits.Radix.TheVariants.{Binary, Decimal, Hexadecimal}
use Rattle.words.specs.Radix.{worth, is_digit}
use Rattle.words.proofs.Worths.{a-digit}
use Rattle.lexicon.specs.Class.{class_of, white_space, blank, opening, closing, comment, quote, hash, digit, other}
use Rattle.lexicon.specs.Span.{span_by, in_symbol, in_line}
use Rattle.lexicon.proofs.Spans.{span_le}
use Rattle.tokens.specs.declared.lexeme.Kind.{Kind}
use Rattle.tokens.specs.declared.lexeme.Lexeme.{Lexeme}
use Rattle.tokens.specs.Lexeme.{single, inside, after_quote, after_hash, whole, by_class, lexeme_at}

pub record Reach (l : Lexeme) (n : ℕ) : Type 0 where
  pub some : 1 ≤ l.width
  pub within : l.skip + l.size ≤ l.width
  pub there : l.width ≤ n

reach-single : (k : Kind) (n : ℕ) → Reach (single k) (suc n)
reach-single k n = record { some = omega arith; within = omega arith; there = omega arith }

reach-quote : (s : List ℕ) → Reach (after_quote s) (suc (length s))
reach-quote s =
    by_test (ltb (inside s) (length s))
    (λ t. let h : inside s < length s = ltb-true (inside s) (length s) t in rw t (record { some = omega arith; within = omega arith; there = omega arith }))
    (λ t. rw t (record { some = omega arith; within = omega arith; there = omega arith }))

reach-hash : (s : List ℕ) → Reach (after_hash s) (suc (length s))
reach-hash [] = record { some = omega arith; within = omega arith; there = omega arith }
reach-hash (b ∷ bs) =
    by_test (eqb b 0x62)
    (λ t. rw t (record { some = omega arith; within = omega arith; there = omega (arith, span_le (is_digit Binary) bs) }))
    (λ t. rw t
    (by_test (eqb b 0x78)
    (λ u. rw u (record { some = omega arith; within = omega arith; there = omega (arith, span_le (is_digit Hexadecimal) bs) }))
    (λ u. rw u (record { some = omega arith; within = omega arith; there = omega arith }))))

reach-run : (k : Kind) (test : ℕ → Bool) (b : ℕ) (bs : List ℕ) → test b ≡ true → Reach (whole k (span_by test (b ∷ bs))) (suc (length bs))
unfolding span_by
reach-run k test b bs h = rw h (record { some = omega arith; within = omega arith; there = omega (arith, span_le test bs) })

-- the class by the tests of its definition, in their order
abbrev class_by : Bool → Bool → Bool → Bool → Bool → Bool → Bool → ℕ
class_by t1 t2 t3 t4 t5 t6 t7 = cond t1 blank (cond t2 opening (cond t3 closing (cond t4 comment (cond t5 quote (cond t6 hash (cond t7 digit other))))))

digit_test : (t1 t2 t3 t4 t5 t6 t7 : Bool) → class_by t1 t2 t3 t4 t5 t6 t7 ≡ 6 → t7 ≡ true
digit_test true t2 t3 t4 t5 t6 t7 q = absurd (omega arith)
digit_test false true t3 t4 t5 t6 t7 q = absurd (omega arith)
digit_test false false true t4 t5 t6 t7 q = absurd (omega arith)
digit_test false false false true t5 t6 t7 q = absurd (omega arith)
digit_test false false false false true t6 t7 q = absurd (omega arith)
digit_test false false false false false true t7 q = absurd (omega arith)
digit_test false false false false false false true q = refl
digit_test false false false false false false false q = absurd (omega arith)

pub record Neither (k : ℕ) : Type 0 where
  pub no-blank : k ≡ 0 → ⊥
  pub no-opening : k ≡ 1 → ⊥
  pub no-closing : k ≡ 2 → ⊥
  pub no-comment : k ≡ 3 → ⊥
  pub no-quote : k ≡ 4 → ⊥
  pub no-hash : k ≡ 5 → ⊥
  pub no_digit : k ≡ 6 → ⊥

last_test : (t1 t2 t3 t4 t5 t6 t7 : Bool) → Neither (class_by t1 t2 t3 t4 t5 t6 t7) → class_by t1 t2 t3 t4 t5 t6 t7 ≡ 7
last_test true t2 t3 t4 t5 t6 t7 n = absurd (n.no-blank refl)
last_test false true t3 t4 t5 t6 t7 n = absurd (n.no-opening refl)
last_test false false true t4 t5 t6 t7 n = absurd (n.no-closing refl)
last_test false false false true t5 t6 t7 n = absurd (n.no-comment refl)
last_test false false false false true t6 t7 n = absurd (n.no-quote refl)
last_test false false false false false true t7 n = absurd (n.no-hash refl)
last_test false false false false false false true n = absurd (n.no_digit refl)
last_test false false false false false false false n = refl

tests : (b : ℕ) → class_of b ≡ class_by (white_space b) (eqb b 0x28) (eqb b 0x29) (eqb b 0x3B) (eqb b 0x22) (eqb b 0x23) (leb 0x30 b && leb b 0x39)
unfolding class_of
tests b = refl

-- a byte of the class of digits is a digit of radix 10
digit-is : (b : ℕ) → class_of b ≡ 6 → is_digit Decimal b ≡ true
digit-is b h =
    let t = digit_test (white_space b) (eqb b 0x28) (eqb b 0x29) (eqb b 0x3B) (eqb b 0x22) (eqb b 0x23) (leb 0x30 b && leb b 0x39) (sym (tests b) ∙ h) in
    let l : 0x30 ≤ b = leb-true 0x30 b (both_left (leb 0x30 b) (leb b 0x39) t) in
    let u : b ≤ 0x39 = leb-true b 0x39 (both_right (leb 0x30 b) (leb b 0x39) t) in
    lt-ltb (worth b) 10 (omega (arith, a-digit b l u))

-- and one of no class before the last may stand in a symbol
other-is : (b : ℕ) → Neither (class_of b) → in_symbol b ≡ true
unfolding in_symbol
other-is b n =
    let o : class_of b ≡ 7 = tests b ∙ last_test (white_space b) (eqb b 0x28) (eqb b 0x29) (eqb b 0x3B) (eqb b 0x22) (eqb b 0x23) (leb 0x30 b && leb b 0x39) (subst Neither (tests b) n) in
    rw (eq-eqb (class_of b) 7 o)

-- by the class, one test after the other
module _ (b : ℕ) (bs : List ℕ) where
  abbrev k : ℕ
  k = class_of b

  abbrev Reached : Lexeme → Type 0
  Reached l = Reach l (suc (length bs))

  split : (t : Bool) (x y : Lexeme) → (t ≡ true → Reached x) → (t ≡ false → Reached y) → Reached (cond t x y)
  split true x y f g = f refl
  split false x y f g = g refl

  reach-by : Reached (by_class (class_of b) b bs)
  reach-by =
      split (eqb k 0) _ _ (λ t. reach-single _ (length bs)) λ n0.
      split (eqb k 1) _ _ (λ t. reach-single _ (length bs)) λ n1.
      split (eqb k 2) _ _ (λ t. reach-single _ (length bs)) λ n2.
      split (eqb k 3) _ _ (λ t. record { some = omega arith; within = omega arith; there = omega (arith, span_le in_line bs) }) λ n3.
      split (eqb k 4) _ _ (λ t. reach-quote bs) λ n4.
      split (eqb k 5) _ _ (λ t. reach-hash bs) λ n5.
      split (eqb k 6) _ _ (λ t. reach-run _ (is_digit Decimal) b bs (digit-is b (eqb-true k 6 t))) λ n6.
      reach-run _ in_symbol b bs
      (other-is b (record {
        no-blank = eqb-false k 0 n0;
        no-opening = eqb-false k 1 n1;
        no-closing = eqb-false k 2 n2;
        no-comment = eqb-false k 3 n3;
        no-quote = eqb-false k 4 n4;
        no-hash = eqb-false k 5 n5;
        no_digit = eqb-false k 6 n6;
      }))

  pub reach : Reach (lexeme_at (b ∷ bs)) (suc (length bs))
  unfolding lexeme_at
  reach = reach-by
