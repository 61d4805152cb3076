-- A string literal is one string: the UTF-8 of the theory's characters.
-- Assumes nothing.
use mathlib.Core.Path.{◌≡◌, refl, ap, ◌∙◌}
use mathlib.Core.Bool.{true, false, not}
use mathlib.Core.List.{List, [], ◌∷◌, ◌++◌, append_assoc}
use Prim.Native.Nat.{ℕ, suc, ◌+◌}
use native.Mathlib.Omega.{arith}
use lib.Dec.{eqb, ltb}
use lib.ListN.{length, length-append}
use lib.Seq.{take-append_seam, drop-append-add}
use borrow.Author.Tests.{lt-ltb, not-true}
use Rattle.ground.proofs.Tests.{both_left, both_right}
use Rattle.strings.specs.Points.{points}
use Rattle.strings.specs.Text.{encodings, any_surrogate}
use Rattle.theory.specs.Literal as L
use Rattle.theory.specs.Literal.{Literal, unquoted}
use Rattle.theory.specs.Theory.{characters}
use Rattle.theory.proofs.Agreements.{literal-text}
use Rattle.lexicon.specs.Class.{class_of}
use Rattle.brackets.specs.Token.{quoted, atom}
use Rattle.tokens.specs.declared.lexeme.Kind.TheVariants.{Quoted}
use Rattle.tokens.specs.Lexeme.{lexeme, inside, after_quote}
use Rattle.tokens.specs.Piece.{Piece, token, piece_of, more, emit, lex}
use Rattle.ground.specs.Lists.{all}
use Rattle.standard.specs.Bytes.{among, enders}
use Rattle.standard.specs.Written.{Inside, empty, byte, doubled, ended}
use Rattle.standard.specs.Limits.{no_raw_byte, Plain}
use Rattle.standard.proofs.Runs.{pass}
use Rattle.standard.proofs.Separators.{one_piece, at_class}

-- without bytes from 80 hex on, the standard's literals are among the theory's
literal-of : {s : List ℕ} → Inside s → no_raw_byte s ≡ true → Literal s
unfolding all
literal-of empty h = L.empty
literal-of (byte {b} {s} p q i) h =
    L.byte (both_left (ltb b 0x80) (no_raw_byte s) h) q (literal-of i (both_right (ltb b 0x80) (no_raw_byte s) h))
literal-of (doubled i) h = L.doubled (literal-of i h)

passed : (b : ℕ) (s : List ℕ) → eqb b 0x22 ≡ false → inside (b ∷ s) ≡ suc (inside s)
unfolding inside
passed b [] h = rw h
passed b (c ∷ cs) h = rw h

no-quote : (b : ℕ) → among enders b ≡ true → eqb b 0x22 ≡ false
unfolding all
no-quote b h = not-true (eqb b 0x22) (pass (λ (c : ℕ). not (eqb c 0x22)) enders b refl h)

shut : (s : List ℕ) → ended s ≡ true → inside (0x22 ∷ s) ≡ 0
unfolding inside
shut [] h = refl
shut (b ∷ bs) h = rw (no-quote b h)

two : (s : List ℕ) → inside (0x22 ∷ 0x22 ∷ s) ≡ suc (suc (inside s))
unfolding inside
two s = refl

inside_is : {s : List ℕ} → Inside s → (r : List ℕ) → ended r ≡ true → inside (s ++ (0x22 ∷ r)) ≡ length s
inside_is empty r e = shut r e
inside_is (byte {b} {s} p q i) r e = passed b (s ++ (0x22 ∷ r)) q ∙ ap suc (inside_is i r e)
inside_is (doubled {s} i) r e = two (s ++ (0x22 ∷ r)) ∙ ap (λ (n : ℕ). suc (suc n)) (inside_is i r e)

piece_is : (x : List ℕ) → Inside x → Plain x → piece_of Quoted x ≡ token (atom (quoted (encodings (characters (unquoted x)))))
piece_is x i p =
    let t = literal-text x (literal-of i p.raw) in
    let n : any_surrogate (points x) ≡ false = t.refused p.six ∙ ap not p.surrogate in
    rw n (ap (λ (y : List ℕ). token (atom (quoted y))) (t.same_text p.six))

quote-is : (t : List ℕ) (n : ℕ) → inside t ≡ n → ltb n (length t) ≡ true → lexeme Quoted 1 n (n + 2) ≡ after_quote t
quote-is t n h k = rw (h, k)

whole-literal : (x s : List ℕ) → Inside x → Plain x → ended s ≡ true
    → lex (0x22 ∷ (x ++ (0x22 ∷ s))) ≡ more (atom (quoted (encodings (characters (unquoted x))))) (lex s)
unfolding class_of
whole-literal x s i p e =
    let n : suc (length x + 1) ≡ length x + 2 = omega arith in
    let l : ltb (length x) (length (x ++ (0x22 ∷ s))) ≡ true = lt-ltb (length x) (length (x ++ (0x22 ∷ s))) (omega (arith, length-append x (0x22 ∷ s))) in
    one_piece 0x22 (x ++ (0x22 ∷ s)) s (lexeme Quoted 1 (length x) (suc (length x + 1)))
    (ap (λ (k : ℕ). lexeme Quoted 1 (length x) k) n ∙ quote-is (x ++ (0x22 ∷ s)) (length x) (inside_is i s e) l ∙ at_class 4 0x22 (x ++ (0x22 ∷ s)) refl)
    (drop-append-add x (0x22 ∷ s) 1)
    ∙ ap (λ (y : List ℕ). emit (piece_of Quoted y) (lex s)) (take-append_seam x (0x22 ∷ s))
    ∙ ap (λ (q : Piece). emit q (lex s)) (piece_is x i p)

pub lex-literal : (x s : List ℕ) → Inside x → Plain x → ended s ≡ true
    → lex (0x22 ∷ ((x ++ (0x22 ∷ [])) ++ s)) ≡ more (atom (quoted (encodings (characters (unquoted x))))) (lex s)
lex-literal x s i p e = ap (λ (t : List ℕ). lex (0x22 ∷ t)) (append_assoc x (0x22 ∷ []) s) ∙ whole-literal x s i p e
