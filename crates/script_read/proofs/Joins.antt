-- The tokens of bytes that have no fault and do not end inside a comment stay the same where a byte follows that ends every run.
-- Assumes nothing.
use mathlib.Core.Path.{◌≡◌, refl, sym, ap, ◌∙◌}
use mathlib.Core.Bool.{Bool, true, false, false≢true}
use mathlib.Core.List.{List, [], ◌∷◌, ◌++◌}
use Prim.Native.Nat.{ℕ, zero, suc, ◌+◌, ◌-◌, ◌≤◌, ◌<◌}
use native.Mathlib.Omega.{arith}
use lib.ListN.{length, take, drop, length-drop}
use lib.Seq.{take-append-le, drop-append-le}
use borrow.Author.Tests.{eqb-true}
use Rattle.lexicon.specs.Class.{class_of}
use Rattle.lexicon.specs.Span.{line_span}
use Rattle.brackets.specs.Token.{Token}
use Rattle.tokens.specs.declared.lexeme.Kind.{Kind}
use Rattle.tokens.specs.declared.lexeme.Kind.TheVariants as K
use Rattle.tokens.specs.declared.lexeme.Lexeme.{Lexeme}
use Rattle.tokens.specs.Lexeme.{by_class, lexeme_at}
use Rattle.tokens.specs.Piece.{Piece, space, token, wrong, piece_of, piece_at, Lexed, ok, bad, more, emit, lex_after, lex}
use Rattle.tokens.proofs.Reaches.{reach}
use Rattle.script_read.specs.Reads.{is_comment, outside_after, outside}
use Rattle.script_read.proofs.Stops.{Stops, standing, same-lexeme}

abbrev pub faultless : Lexed → Bool
faultless (ok xs) = true
faultless (bad why) = false

-- tokens, then others; the first fault counts
abbrev pub then : Lexed → Lexed → Lexed
then (ok xs) (ok ys) = ok (xs ++ ys)
then (ok xs) (bad why) = bad why
then (bad why) l = bad why

more-then : (x : Token) (l m : Lexed) → more x (then l m) ≡ then (more x l) m
more-then x (ok xs) (ok ys) = refl
more-then x (ok xs) (bad why) = refl
more-then x (bad why) m = refl

emit-then : (p : Piece) (l m : Lexed) → emit p (then l m) ≡ then (emit p l) m
emit-then space l m = refl
emit-then (token x) l m = more-then x l m
emit-then (wrong why) l m = refl

nothing_then : (m : Lexed) → then (ok []) m ≡ m
nothing_then (ok ys) = refl
nothing_then (bad why) = refl

-- a fault at a place is a fault of the whole, and so is one after it
emit-rest : (p : Piece) (l : Lexed) → faultless (emit p l) ≡ true → faultless l ≡ true
emit-rest space l h = h
emit-rest (token x) (ok xs) h = refl
emit-rest (token x) (bad why) h = h
emit-rest (wrong why) l h = absurd (false≢true h)

emit-stands : (k : Kind) (x : List ℕ) (l : Lexed) → faultless (emit (piece_of k x) l) ≡ true → standing k ≡ true
emit-stands K.Blank x l h = refl
emit-stands K.Opening x l h = refl
emit-stands K.Closing x l h = refl
emit-stands (K.Bits r) x l h = refl
emit-stands K.Number x l h = refl
emit-stands K.Quoted x l h = refl
emit-stands K.Name x l h = refl
emit-stands K.Stray x l h = h
emit-stands K.Unclosed x l h = h

-- a comment that is not the last goes on within the bytes
comment-ends : (k : ℕ) (s : List ℕ) → outside_after true k s ≡ true → k < length s
unfolding outside_after
comment-ends k [] h = absurd (false≢true h)
comment-ends zero (b ∷ bs) h = omega arith
comment-ends (suc k) (b ∷ bs) h = let l = comment-ends k bs h in omega arith

comment-width : (c : ℕ) (cs : List ℕ) → is_comment c ≡ true → (lexeme_at (c ∷ cs)).width - 1 ≡ line_span cs
unfolding lexeme_at
comment-width c cs t = ap (λ (k : ℕ). (by_class k c cs).width - 1) (eqb-true (class_of c) 3 t) ∙ omega arith

-- bytes within a list are the same in a longer one
part_same : (x u : List ℕ) (skip size : ℕ) → skip + size ≤ length x → take size (drop skip (x ++ u)) ≡ take size (drop skip x)
part_same x u skip size h =
    ap (take size) (drop-append-le skip x u (omega arith))
    ∙ take-append-le size (drop skip x) u (omega (arith, length-drop skip x))

module _ (b : ℕ) (u : List ℕ) (stops : Stops b) where
  module _ (c : ℕ) (cs : List ℕ) (fine : faultless (lex_after 0 (c ∷ cs)) ≡ true) (out : outside (c ∷ cs) ≡ true) where
    fine-here : faultless (emit (piece_at (c ∷ cs)) (lex_after ((lexeme_at (c ∷ cs)).width - 1) cs)) ≡ true
    unfolding lex_after
    fine-here = fine

    out-rest : outside_after (is_comment c) ((lexeme_at (c ∷ cs)).width - 1) cs ≡ true
    unfolding outside_after
    out-rest = out

    ends : is_comment c ≡ true → line_span cs < length cs
    ends t =
        let h : (lexeme_at (c ∷ cs)).width - 1 < length cs = comment-ends ((lexeme_at (c ∷ cs)).width - 1) cs (rw t at out-rest) in
        omega (arith, comment-width c cs t)

    lexeme-same : lexeme_at (c ∷ (cs ++ (b ∷ u))) ≡ lexeme_at (c ∷ cs)
    unfolding piece_at
    lexeme-same = same-lexeme b u stops c cs ends (emit-stands (lexeme_at (c ∷ cs)).kind _ (lex_after ((lexeme_at (c ∷ cs)).width - 1) cs) fine-here)

    piece-same : piece_at (c ∷ (cs ++ (b ∷ u))) ≡ piece_at (c ∷ cs)
    unfolding piece_at
    piece-same =
        ap (λ (l : Lexeme). piece_of l.kind (take l.size (drop l.skip (c ∷ (cs ++ (b ∷ u)))))) lexeme-same
        ∙ ap (piece_of (lexeme_at (c ∷ cs)).kind)
        (part_same (c ∷ cs) (b ∷ u) (lexeme_at (c ∷ cs)).skip (lexeme_at (c ∷ cs)).size (omega (arith, (reach c cs).within, (reach c cs).there)))

    within : (lexeme_at (c ∷ cs)).width - 1 ≤ length cs
    within = omega (arith, (reach c cs).there, (reach c cs).some)

  lex_join : (before : Bool) (k : ℕ) (s : List ℕ) → k ≤ length s → faultless (lex_after k s) ≡ true → outside_after before k s ≡ true
      → lex_after k (s ++ (b ∷ u)) ≡ then (lex_after k s) (lex (b ∷ u))
  unfolding lex_after outside_after
  lex_join before zero [] l h o = sym (nothing_then (lex (b ∷ u)))
  lex_join before (suc k) [] l h o = absurd (omega arith)
  lex_join before zero (c ∷ cs) l h o =
      ap (λ (p : Piece). emit p (lex_after ((lexeme_at (c ∷ (cs ++ (b ∷ u)))).width - 1) (cs ++ (b ∷ u)))) (piece-same c cs h o)
      ∙ ap (λ (x : Lexeme). emit (piece_at (c ∷ cs)) (lex_after (x.width - 1) (cs ++ (b ∷ u)))) (lexeme-same c cs h o)
      ∙ ap (emit (piece_at (c ∷ cs)))
      (lex_join (is_comment c) ((lexeme_at (c ∷ cs)).width - 1) cs (within c cs h o) (emit-rest (piece_at (c ∷ cs)) _ h) o)
      ∙ emit-then (piece_at (c ∷ cs)) (lex_after ((lexeme_at (c ∷ cs)).width - 1) cs) (lex (b ∷ u))
  lex_join before (suc k) (c ∷ cs) l h o = lex_join before k cs (omega arith) h o

  outside_join : (before : Bool) (k : ℕ) (s : List ℕ) → k ≤ length s → faultless (lex_after k s) ≡ true → outside_after before k s ≡ true
      → outside_after before k (s ++ (b ∷ u)) ≡ outside (b ∷ u)
  unfolding lex_after outside_after
  outside_join before zero [] l h o = refl
  outside_join before (suc k) [] l h o = absurd (omega arith)
  outside_join before zero (c ∷ cs) l h o =
      ap (λ (x : Lexeme). outside_after (is_comment c) (x.width - 1) (cs ++ (b ∷ u))) (lexeme-same c cs h o)
      ∙ outside_join (is_comment c) ((lexeme_at (c ∷ cs)).width - 1) cs (within c cs h o) (emit-rest (piece_at (c ∷ cs)) _ h) o
  outside_join before (suc k) (c ∷ cs) l h o = outside_join before k cs (omega arith) h o

  pub joined-lex : (s : List ℕ) → faultless (lex s) ≡ true → outside s ≡ true → lex (s ++ (b ∷ u)) ≡ then (lex s) (lex (b ∷ u))
  joined-lex s h o = lex_join false 0 s (omega arith) h o

  pub joined-outside : (s : List ℕ) → faultless (lex s) ≡ true → outside s ≡ true → outside (s ++ (b ∷ u)) ≡ outside (b ∷ u)
  joined-outside s h o = outside_join false 0 s (omega arith) h o
