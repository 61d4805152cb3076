-- White space passed over: the place after it is within the bytes, and the tokens from there on are the same.
-- Assumes nothing.
use mathlib.Core.Path.{◌≡◌, refl, sym, ap, ◌∙◌}
use mathlib.Core.Bool.{Bool, true, false, cond, ◌&&◌}
use mathlib.Core.List.{List, [], ◌∷◌}
use Prim.Native.Nat.{ℕ, ◌+◌, ◌-◌, ◌≤◌, ◌<◌}
use native.Mathlib.Omega.{arith}
use lib.Dec.{leb, eqb}
use lib.ListN.{length, take, drop}
use lib.Seq.{drop-drop}
use Rattle.ground.proofs.Tests.{by_test}
use Rattle.lexicon.specs.Class.{white_space, class_of, blank}
use Rattle.lexicon.specs.Span.{span_by}
use Rattle.lexicon.proofs.Spans.{span_end_le}
use Rattle.tokens.specs.declared.lexeme.Kind.TheVariants.{Blank}
use Rattle.tokens.specs.declared.lexeme.Lexeme.{Lexeme}
use Rattle.tokens.specs.Lexeme.{single, blank_span, by_class, lexeme_at}
use Rattle.tokens.specs.Piece.{piece_of, piece_at, emit, lex_after, lex}

white_class : (b : ℕ) → white_space b ≡ true → class_of b ≡ blank
unfolding class_of
white_class b e = rw e

nonzero : (t : Bool) (n m : ℕ) → 0 < n → 0 < m → 0 < cond t n m
nonzero true n m h k = h
nonzero false n m h k = k

not_white : (b : ℕ) → white_space b ≡ false → 0 < class_of b
unfolding class_of
not_white b e =
    rw e
    (nonzero (eqb b 0x28) _ _ (omega arith) (nonzero (eqb b 0x29) _ _ (omega arith) (nonzero (eqb b 0x3B) _ _ (omega arith) (nonzero (eqb b 0x22) _ _ (omega arith)
    (nonzero (eqb b 0x23) _ _ (omega arith) (nonzero (leb 0x30 b && leb b 0x39) _ _ (omega arith) (omega arith)))))))

-- what the class of a byte says of it
pub is_white : (b : ℕ) → class_of b ≡ blank → white_space b ≡ true
is_white b h = by_test (white_space b) (λ e. e) (λ e. absurd (omega (arith, not_white b e)))

pub no-white : (b : ℕ) → (class_of b ≡ blank → ⊥) → white_space b ≡ false
no-white b h = by_test (white_space b) (λ e. absurd (h (white_class b e))) (λ e. e)

blank-lexeme : (b : ℕ) (bs : List ℕ) → white_space b ≡ true → single Blank ≡ lexeme_at (b ∷ bs)
unfolding lexeme_at
blank-lexeme b bs e = sym (ap (λ (k : ℕ). by_class k b bs) (white_class b e))

-- a byte of white space brings no token
pub lex-blank : (b : ℕ) (bs : List ℕ) → white_space b ≡ true → lex (b ∷ bs) ≡ lex bs
unfolding lex_after piece_at
lex-blank b bs e =
    sym (ap (λ (l : Lexeme). emit (piece_of l.kind (take l.size (drop l.skip (b ∷ bs)))) (lex_after (l.width - 1) bs)) (blank-lexeme b bs e))

blanks_same : (s : List ℕ) → lex (drop (blank_span s) s) ≡ lex s
unfolding span_by
blanks_same [] = refl
blanks_same (b ∷ bs) = by_test (white_space b) (λ e. rw e (blanks_same bs ∙ sym (lex-blank b bs e))) (λ e. rw e)

module _ (s : List ℕ) (start next : ℕ) (is : next ≡ start + blank_span (drop start s)) where
  pub past-within : start ≤ length s → next ≤ length s
  past-within h = omega (arith, is, span_end_le white_space s start h)

  pub past_same : lex (drop next s) ≡ lex (drop start s)
  past_same = ap (λ (n : ℕ). lex (drop n s)) is ∙ ap lex (sym (drop-drop (blank_span (drop start s)) start s)) ∙ blanks_same (drop start s)
