-- White space and comments bring no token.
-- Assumes nothing.
use mathlib.Core.Path.{◌≡◌, refl, sym, ap, ◌∙◌}
use mathlib.Core.Bool.{true, false, not, ◌&&◌, false≢true}
use mathlib.Core.List.{List, [], ◌∷◌, ◌++◌}
use Prim.Native.Nat.{ℕ, suc, ◌+◌}
use native.Mathlib.Nat.{zero-add}
use native.Mathlib.Omega.{arith}
use lib.Dec.{eqb}
use lib.ListN.{length, take, drop}
use lib.Seq.{drop-append-add}
use borrow.Author.Tests.{eqb-true}
use Rattle.ground.proofs.Tests.{by_test, both_left, both_right}
use Rattle.lexicon.specs.Class.{white_space, class_of}
use Rattle.lexicon.specs.Span.{span_by, in_line, line_span}
use Rattle.tokens.specs.declared.lexeme.Kind.TheVariants.{Blank}
use Rattle.tokens.specs.declared.lexeme.Lexeme.{Lexeme}
use Rattle.tokens.specs.Lexeme.{lexeme, by_class, lexeme_at}
use Rattle.tokens.specs.Piece.{piece_of, piece_at, emit, lex}
use Rattle.tokens.proofs.Lexes.{lex-at}
use Rattle.tokens.proofs.Pasts.{lex-blank}
use Rattle.ground.specs.Lists.{all}
use Rattle.standard.specs.Bytes.{among, white_spaces, line_ends}
use Rattle.standard.specs.Limits.{blank_line, line_fed}
use Rattle.standard.proofs.Runs.{pass, all-by, span_over}

-- what stands first, and what is left
pub one_piece : (b : ℕ) (bs rest : List ℕ) (l : Lexeme) → l ≡ lexeme_at (b ∷ bs) → drop l.width (b ∷ bs) ≡ rest
    → lex (b ∷ bs) ≡ emit (piece_of l.kind (take l.size (drop l.skip (b ∷ bs)))) (lex rest)
unfolding piece_at
one_piece b bs rest l is to =
    lex-at (b ∷ bs) 0 l (omega arith) is
    ∙ ap (λ (x : Lexeme). emit (piece_of x.kind (take x.size (drop x.skip (b ∷ bs)))) (lex (drop (0 + l.width) (b ∷ bs)))) (sym is)
    ∙ ap (λ (t : List ℕ). emit (piece_of l.kind (take l.size (drop l.skip (b ∷ bs)))) (lex t))
    (ap (λ (n : ℕ). drop n (b ∷ bs)) (zero-add l.width) ∙ to)

pub at_class : (k b : ℕ) (bs : List ℕ) → class_of b ≡ k → by_class k b bs ≡ lexeme_at (b ∷ bs)
unfolding lexeme_at
at_class k b bs e = sym (ap (λ (c : ℕ). by_class c b bs) e)

whites_are : all white_space white_spaces ≡ true
unfolding all
whites_are = refl

pub lex-white : (b : ℕ) (s : List ℕ) → among white_spaces b ≡ true → lex (b ∷ s) ≡ lex s
lex-white b s h = lex-blank b s (pass white_space white_spaces b whites_are h)

-- a comment's bytes, and what of the rest its line still has
line : (x s : List ℕ) → all in_line x ≡ true → lex (0x3B ∷ (x ++ s)) ≡ lex (drop (line_span s) s)
unfolding class_of
line x s h =
    let n : suc (length x + line_span s) ≡ 1 + line_span (x ++ s) = omega (arith, span_over in_line x s h) in
    one_piece 0x3B (x ++ s) (drop (line_span s) s) (lexeme Blank 0 0 (suc (length x + line_span s)))
    (ap (λ (k : ℕ). lexeme Blank 0 0 k) n ∙ at_class 3 0x3B (x ++ s) refl)
    (drop-append-add x s (line_span s))

in_line_lem : (b : ℕ) → not (among line_ends b) ≡ true → in_line b ≡ true
unfolding among in_line
in_line_lem b h = by_test (eqb b 0x0A) (λ e. absurd (false≢true (rw e at h))) (λ e. rw e)

stops : (b : ℕ) (s : List ℕ) → eqb b 0x0A ≡ true → line_span (b ∷ s) ≡ 0
unfolding span_by in_line
stops b s h = rw h

goes : (b : ℕ) (s : List ℕ) → eqb b 0x0A ≡ false → line_span (b ∷ s) ≡ suc (line_span s)
unfolding span_by in_line
goes b s h = rw h

-- what is left of a line that brings no token
blank-line : (s : List ℕ) → blank_line s ≡ true → lex (drop (line_span s) s) ≡ lex s
unfolding blank_line span_by all
blank-line [] h = refl
blank-line (b ∷ bs) h =
    by_test (eqb b 0x0A)
    (λ t. ap (λ (n : ℕ). lex (drop n (b ∷ bs))) (stops b bs t))
    (λ t. ap (λ (n : ℕ). lex (drop n (b ∷ bs))) (goes b bs t)
    ∙ by_test (eqb b 0x3B)
    (λ c. sym (line [] bs refl) ∙ ap (λ (x : ℕ). lex (x ∷ bs)) (sym (eqb-true b 0x3B c)))
    (λ c.
    let k : (among white_spaces b && blank_line bs) ≡ true = rw (t, c) at h in
    blank-line bs (both_right (among white_spaces b) (blank_line bs) k) ∙ sym (lex-white b bs (both_left (among white_spaces b) (blank_line bs) k))))

feed : (e : ℕ) → eqb e 0x0A ≡ true → among white_spaces e ≡ true
unfolding among
feed e h = ap (among white_spaces) (eqb-true e 0x0A h)

pub lex-comment : (x : List ℕ) (e : ℕ) (s : List ℕ) → all (λ b. not (among line_ends b)) x ≡ true → line_fed e s ≡ true
    → lex (0x3B ∷ (x ++ (e ∷ s))) ≡ lex s
lex-comment x e s h k =
    line x (e ∷ s) (all-by (λ (b : ℕ). not (among line_ends b)) in_line in_line_lem x h)
    ∙ by_test (eqb e 0x0A)
    (λ t. ap (λ (n : ℕ). lex (drop n (e ∷ s))) (stops e s t) ∙ lex-white e s (feed e t))
    (λ t. ap (λ (n : ℕ). lex (drop n (e ∷ s))) (goes e s t) ∙ blank-line s (rw t at k))
