-- What stands at a place stays the same where a byte follows that no symbol, number or string goes on with.
-- Assumes nothing.
use mathlib.Core.Path.{◌≡◌, refl, ap}
use mathlib.Core.Bool.{Bool, true, false, cond, false≢true}
use mathlib.Core.List.{List, [], ◌∷◌, ◌++◌}
use Prim.Native.Nat.{ℕ, suc, ◌+◌, ◌<◌}
use native.Mathlib.Omega.{arith}
use lib.Dec.{ltb, eqb}
use lib.ListN.{length, length-append}
use borrow.Author.Tests.{ltb-true, lt-ltb}
use Rattle.ground.proofs.Tests.{by_test}
use Rattle.words.specs.declared.digits.Radix.{Radix}
use Rattle.words.specs.declared.digits.Radix.TheVariants.{Binary, Decimal, Hexadecimal}
use Rattle.words.specs.Radix.{worth, is_digit}
use Rattle.lexicon.specs.Class.{class_of}
use Rattle.lexicon.specs.Span.{span_by, in_symbol, in_line, line_span}
use Rattle.tokens.specs.declared.lexeme.Kind.{Kind}
use Rattle.tokens.specs.declared.lexeme.Kind.TheVariants.{Blank, Opening, Closing, Bits, Number, Quoted, Name, Stray, Unclosed}
use Rattle.tokens.specs.declared.lexeme.Lexeme.{Lexeme}
use Rattle.tokens.specs.Lexeme.{lexeme, inside, after_quote, bit_vector, after_hash, whole, lexeme_at}
use Rattle.script_read.specs.Reads.{is_comment}

-- no byte of a symbol, no digit of any radix, no quote
pub record Stops (b : ℕ) : Type 0 where
  pub symbol : in_symbol b ≡ false
  pub digit : worth b ≡ 16
  pub quote : eqb b 0x22 ≡ false

no_digit : (r : Radix) (b : ℕ) → worth b ≡ 16 → is_digit r b ≡ false
no_digit Binary b h = rw h
no_digit Decimal b h = rw h
no_digit Hexadecimal b h = rw h

-- no fault
abbrev pub standing : Kind → Bool
standing Blank = true
standing Opening = true
standing Closing = true
standing (Bits r) = true
standing Number = true
standing Quoted = true
standing Name = true
standing Stray = false
standing Unclosed = false

-- a run that ends before its bytes do ends there whatever follows
span_inner : (test : ℕ → Bool) (x u : List ℕ) → span_by test x < length x → span_by test (x ++ u) ≡ span_by test x
unfolding span_by
span_inner test [] u h = absurd (omega arith)
span_inner test (c ∷ cs) u h =
    by_test (test c)
    (λ e. rw e (ap suc (span_inner test cs u (let k = rw e at h in omega arith))))
    (λ e. rw e)

module _ (b : ℕ) (u : List ℕ) (stops : Stops b) where
  span_stop : (test : ℕ → Bool) (x : List ℕ) → test b ≡ false → span_by test (x ++ (b ∷ u)) ≡ span_by test x
  unfolding span_by
  span_stop test [] h = rw h
  span_stop test (c ∷ cs) h = rw (span_stop test cs h)

  inside-same : (x : List ℕ) → inside x < length x → inside (x ++ (b ∷ u)) ≡ inside x
  unfolding inside
  inside-same [] h = absurd (omega arith)
  inside-same (c ∷ []) h =
      by_test (eqb c 0x22) (λ t. rw (t, stops.quote)) (λ t. absurd (let k = rw t at h in omega arith))
  inside-same (c ∷ d ∷ ds) h =
      by_test (eqb c 0x22)
      (λ t. rw t
      (by_test (eqb d 0x22)
      (λ v. rw v (ap (λ (n : ℕ). suc (suc n)) (inside-same ds (let k = rw (t, v) at h in omega arith))))
      (λ v. rw v)))
      (λ t. rw t (ap suc (inside-same (d ∷ ds) (let k = rw t at h in omega arith))))

  abbrev Same : Lexeme → Lexeme → Type 0
  Same l m = standing m.kind ≡ true → l ≡ m

  split : (t : Bool) (l m l' m' : Lexeme) → (t ≡ true → Same l l') → (t ≡ false → Same m m') → Same (cond t l m) (cond t l' m')
  split true l m l' m' f g = f refl
  split false l m l' m' f g = g refl

  quote-same : (x : List ℕ) → Same (after_quote (x ++ (b ∷ u))) (after_quote x)
  quote-same x h =
      by_test (ltb (inside x) (length x))
      (λ t.
      let l = ltb-true (inside x) (length x) t in
      let e = inside-same x l in
      rw t (rw (lt-ltb (inside (x ++ (b ∷ u))) (length (x ++ (b ∷ u))) (omega (arith, length-append x (b ∷ u))))
      (ap (λ (n : ℕ). lexeme Quoted 1 n (n + 2)) e)))
      (λ t. absurd (false≢true (rw t at h)))

  bits-same : (r : Radix) (x : List ℕ) → bit_vector r (x ++ (b ∷ u)) ≡ bit_vector r x
  bits-same r x = ap (λ (n : ℕ). lexeme (Bits r) 2 n (2 + n)) (span_stop (is_digit r) x (no_digit r b stops.digit))

  hash-same : (x : List ℕ) → Same (after_hash (x ++ (b ∷ u))) (after_hash x)
  hash-same [] = λ h. absurd (false≢true h)
  hash-same (c ∷ cs) =
      split (eqb c 0x62) _ _ _ _ (λ t h. bits-same Binary cs) λ n.
      split (eqb c 0x78) _ _ _ _ (λ t h. bits-same Hexadecimal cs) λ m h. refl

  -- a comment must end before
  pub same-lexeme : (c : ℕ) (cs : List ℕ) → (is_comment c ≡ true → line_span cs < length cs) → Same (lexeme_at (c ∷ (cs ++ (b ∷ u)))) (lexeme_at (c ∷ cs))
  unfolding lexeme_at
  same-lexeme c cs k =
      split (eqb (class_of c) 0) _ _ _ _ (λ t h. refl) λ n0.
      split (eqb (class_of c) 1) _ _ _ _ (λ t h. refl) λ n1.
      split (eqb (class_of c) 2) _ _ _ _ (λ t h. refl) λ n2.
      split (eqb (class_of c) 3) _ _ _ _ (λ t h. ap (λ (n : ℕ). lexeme Blank 0 0 (1 + n)) (span_inner in_line cs (b ∷ u) (k t))) λ n3.
      split (eqb (class_of c) 4) _ _ _ _ (λ t. quote-same cs) λ n4.
      split (eqb (class_of c) 5) _ _ _ _ (λ t. hash-same cs) λ n5.
      split (eqb (class_of c) 6) _ _ _ _ (λ t h. ap (whole Number) (span_stop (is_digit Decimal) (c ∷ cs) (no_digit Decimal b stops.digit))) λ n6 h.
      ap (whole Name) (span_stop in_symbol (c ∷ cs) stops.symbol)
