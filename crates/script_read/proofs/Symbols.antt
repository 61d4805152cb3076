-- A name that is one symbol is a single S-expression, and ends inside no comment.
-- Assumes nothing.
use mathlib.Core.Path.{◌≡◌, refl, ap, ◌∙◌}
use mathlib.Core.Bool.{true, false, false≢true}
use mathlib.Core.List.{List, [], ◌∷◌}
use Prim.Native.Nat.{ℕ, ◌-◌}
use native.Mathlib.Omega.{arith}
use lib.ListN.{length, take, drop}
use lib.Dec.{eqb}
use Rattle.lexicon.specs.Symbol.{one_symbol}
use Rattle.lexicon.proofs.Symbols.{one-symbol-starts, one-symbol-utf8, one-symbol_span}
use Rattle.brackets.specs.Token.{name, atom}
use Rattle.tokens.specs.declared.lexeme.Kind.TheVariants.{Name}
use Rattle.tokens.specs.declared.lexeme.Lexeme.{Lexeme}
use Rattle.tokens.specs.Lexeme.{whole, by_class, lexeme_at}
use Rattle.tokens.specs.Piece.{Piece, token, piece_of, piece_at, ok, emit, lex_after, lex}
use Rattle.reader.specs.Read.{outcome, parse}
use Rattle.script_read.specs.Reads.{outside_after, outside}
use Rattle.script_read.specs.Lines.{SymbolRead}

-- nothing is left after the last byte
lex-past : (s : List ℕ) → lex_after (length s) s ≡ ok []
unfolding lex_after
lex-past [] = refl
lex-past (b ∷ bs) = lex-past bs

outside-past : (s : List ℕ) → outside_after false (length s) s ≡ true
unfolding outside_after
outside-past [] = refl
outside-past (b ∷ bs) = outside-past bs

take_whole : (s : List ℕ) → take (length s) s ≡ s
take_whole [] = refl
take_whole (b ∷ bs) = ap (λ (t : List ℕ). b ∷ t) (take_whole bs)

module _ (b : ℕ) (bs : List ℕ) (h : one_symbol (b ∷ bs) ≡ true) where
  lexeme-is : lexeme_at (b ∷ bs) ≡ whole Name (length (b ∷ bs))
  unfolding lexeme_at
  lexeme-is = ap (λ (k : ℕ). by_class k b bs) (one-symbol-starts (b ∷ bs) h) ∙ ap (whole Name) (one-symbol_span (b ∷ bs) h)

  width_is : (lexeme_at (b ∷ bs)).width - 1 ≡ length bs
  width_is = omega (arith, ap (λ (l : Lexeme). l.width) lexeme-is)

  piece_is : piece_at (b ∷ bs) ≡ token (atom (name (b ∷ bs)))
  unfolding piece_at
  piece_is =
      ap (λ (l : Lexeme). piece_of l.kind (take l.size (drop l.skip (b ∷ bs)))) lexeme-is
      ∙ ap (piece_of Name) (take_whole (b ∷ bs)) ∙ rw (one-symbol-utf8 (b ∷ bs) h)

  lex-is : lex (b ∷ bs) ≡ ok (atom (name (b ∷ bs)) ∷ [])
  unfolding lex_after
  lex-is =
      ap (emit (piece_at (b ∷ bs))) (ap (λ (n : ℕ). lex_after n bs) width_is ∙ lex-past bs) ∙ ap (λ (p : Piece). emit p (ok [])) piece_is

  outside-is : outside (b ∷ bs) ≡ true
  unfolding outside_after
  outside-is =
      ap (λ (k : ℕ). outside_after (eqb k 3) ((lexeme_at (b ∷ bs)).width - 1) bs) (one-symbol-starts (b ∷ bs) h)
      ∙ ap (λ (n : ℕ). outside_after false n bs) width_is ∙ outside-past bs

pub symbol-read : (s : List ℕ) → SymbolRead s
unfolding parse one_symbol
symbol-read [] h = absurd (false≢true h)
symbol-read (b ∷ bs) h = record { parsed = ap outcome (lex-is b bs h); ends = outside-is b bs h }
