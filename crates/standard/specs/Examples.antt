-- SMT-LIB 2.7 §3.1 beside document 01: an S-expression as it may be written, and the smallest bytes at each limit and departure.
use Rattle.std.specs.Prelude.{◌≡◌, refl, true, List, [], ◌∷◌, ◌++◌, ℕ, suc, ◌-◌, ◌^◌, ℤ, pos, negsuc, length, replicate}
use Rattle.std.proofs.Common.{sym, ap, ◌∙◌, arith}
use Rattle.refusals.specs.declared.Refusal.TheVariants.{UnexpectedEnd, StringParseError, ParseIntError, TrailingTokens}
use Rattle.words.specs.Radix.{worth}
use Rattle.words.specs.Run as Run
use Rattle.words.specs.Run.{parsed}
use Rattle.words.specs.Extension.{signed, extended}
use Rattle.utf8.specs.Octets.{octets, utf8}
use Rattle.utf8.specs.Encoding.{scalar, encoded}
use Rattle.strings.specs.Escape.{hex_run, braced, braced_escape, four_digits, escape}
use Rattle.strings.specs.Points.{character_at, points_after}
use Rattle.ground.specs.Bytes.{bytes}
use Rattle.strings.specs.Text.{encodings, any_surrogate}
use Rattle.strings.specs.Text as S
use Rattle.theory.specs.Literal.{unquoted}
use Rattle.theory.specs.Theory.{is_hex, hex_value, number_by, spelled_by, characters_by, characters}
use Rattle.lexicon.specs.Class.{class_of}
use Rattle.lexicon.specs.Span.{span_by, in_symbol, in_line}
use Rattle.arena.specs.Tree.{string, text}
use Rattle.brackets.specs.Walk.{Outcome, tree, refused}
use Rattle.tokens.specs.Lexeme.{inside, lexeme_at}
use Rattle.tokens.specs.Piece.{piece_at, lex_after}
use Rattle.reader.specs.Read.{parse}
use Rattle.ground.specs.Lists.{all}
use Rattle.standard.specs.Bytes.{among, from, decimal_digits, hexadecimal_digits, symbol_starts, symbol_bytes}
use Rattle.standard.specs.Written.{numeral, decimal, hexadecimal, binary, literal, simple, barred, keyword, empty, byte, doubled, nothing, white, comment, opening, closing, token, Expression, one, several, none, first, Written}
use Rattle.standard.specs.Image.{signed_by, twos, image}
use Rattle.standard.specs.Limits.{blank_line, no_lone_return}
use Rattle.standard.specs.Agreement.{Kept}

-- `(a #xF;!`, a carriage return, `;`, a line feed, `"""" :b |1|)`
sample : Written
    (several (first (one (simple (bytes "a"))) (first (one (hexadecimal (bytes "F"))) (first (one (literal (bytes "\"\""))) (first (one (keyword (bytes "b"))) (first (one (barred (bytes "1"))) none))))))
    (bytes "(a #xF;!\r;\n\"\"\"\" :b |1|)")
unfolding among all from decimal_digits hexadecimal_digits symbol_starts symbol_bytes
sample =
    opening (token (simple (bytes "a")) refl refl (white refl (token (hexadecimal (bytes "F")) refl refl
    (comment (bytes "!") 0x0D refl refl (comment [] 0x0A refl refl (token (literal (bytes "\"\"")) (doubled empty) refl
    (white refl (token (keyword (bytes "b")) refl refl (white refl (token (barred (bytes "1")) refl refl (closing nothing)))))))))))

sample-fed : no_lone_return sample ≡ true
unfolding sample blank_line
sample-fed = refl

-- bytes that are the S-expression by the standard, and that ours refuses or reads as another tree
pub record Departs (x : Expression) (s : List ℕ) : Type 0 where
  pub written : Written x s
  pub other : parse s ≡ tree (image x) → ⊥

-- enough to tell the outcomes below apart
abbrev size : Outcome → ℕ
size (tree t) = suc (length (text t))
size (refused why) = 0

-- `;`, a carriage return, `a`: a comment to the end
return_read : parse (bytes ";\ra") ≡ refused UnexpectedEnd
unfolding parse lex_after piece_at lexeme_at class_of span_by in_line
return_read = refl

pub lone_return : Departs (one (simple (bytes "a"))) (bytes ";\ra")
unfolding among all from decimal_digits symbol_starts symbol_bytes
lone_return = record {
  written = comment [] 0x0D refl refl (token (simple (bytes "a")) refl refl nothing);
  other = λ e. let n : ◌≡◌ {A = ℕ} 0 2 = ap size (sym return_read ∙ e) in omega arith;
}

-- `0.0`: a numeral, and a symbol after it
decimal-read : parse (bytes "0.0") ≡ refused TrailingTokens
unfolding parse lex_after piece_at lexeme_at class_of span_by in_symbol parsed all Run.from worth utf8 octets
decimal-read = refl

pub a-decimal : Departs (one (decimal (bytes "0") (bytes "0"))) (bytes "0.0")
unfolding among all from decimal_digits
a-decimal = record {
  written = token (decimal (bytes "0") (bytes "0")) (refl, refl) refl nothing;
  other = λ e. let n : ◌≡◌ {A = ℕ} 0 4 = ap size (sym decimal-read ∙ e) in omega arith;
}

-- `| |`: two symbols of one bar each
bars_read : parse (bytes "| |") ≡ refused TrailingTokens
unfolding parse lex_after piece_at lexeme_at class_of span_by in_symbol utf8 octets
bars_read = refl

pub a-barred : Departs (one (barred (bytes " "))) (bytes "| |")
unfolding among all
a-barred = record {
  written = token (barred (bytes " ")) refl refl nothing;
  other = λ e. let n : ◌≡◌ {A = ℕ} 0 4 = ap size (sym bars_read ∙ e) in omega arith;
}

-- 2^128
large_read : parse (bytes "340282366920938463463374607431768211456") ≡ refused ParseIntError
unfolding parse lex_after piece_at lexeme_at class_of span_by parsed all Run.from worth
large_read = refl

pub too_large : Departs (one (numeral (bytes "340282366920938463463374607431768211456"))) (bytes "340282366920938463463374607431768211456")
unfolding among all from decimal_digits
too_large = record {
  written = token (numeral (bytes "340282366920938463463374607431768211456")) refl refl nothing;
  other = λ e. let n : ◌≡◌ {A = ℕ} 0 1 = ap size (sym large_read ∙ e) in omega arith;
}

-- `"\ud800"` is refused
surrogate-read : parse (bytes "\"\\ud800\"") ≡ refused StringParseError
unfolding parse lex_after piece_at lexeme_at class_of inside any_surrogate scalar points_after character_at escape four_digits hex_run worth Run.from
surrogate-read = refl

pub a-surrogate : Departs (one (literal (bytes "\\ud800"))) (bytes "\"\\ud800\"")
unfolding among characters unquoted characters_by spelled_by number_by is_hex hex_value encodings encoded scalar
a-surrogate = record {
  written = token (literal (bytes "\\ud800")) (byte refl refl (byte refl refl (byte refl refl (byte refl refl (byte refl refl (byte refl refl empty)))))) refl nothing;
  other = λ e. let n : ◌≡◌ {A = ℕ} 0 1 = ap size (sym surrogate-read ∙ e) in omega arith;
}

-- `"\u{000041}"` is one character, and ten by the theory
six-read : parse (bytes "\"\\u{000041}\"") ≡ tree (string (bytes "A"))
unfolding parse lex_after piece_at lexeme_at class_of inside any_surrogate scalar points_after character_at escape braced_escape braced hex_run worth Run.from S.text encodings encoded
six-read = refl

pub six-digits : Departs (one (literal (bytes "\\u{000041}"))) (bytes "\"\\u{000041}\"")
unfolding among characters unquoted characters_by spelled_by number_by is_hex hex_value encodings encoded scalar
six-digits = record {
  written =
      token (literal (bytes "\\u{000041}"))
      (byte refl refl (byte refl refl (byte refl refl (byte refl refl (byte refl refl
      (byte refl refl (byte refl refl (byte refl refl (byte refl refl (byte refl refl empty)))))))))) refl nothing;
  other = λ e. let n : ◌≡◌ {A = ℕ} 2 11 = ap size (sym six-read ∙ e) in omega arith;
}

-- a byte from 80 hex on becomes a code point: é, in UTF-8, is read as two characters
raw-read : parse (0x22 ∷ 0xC3 ∷ 0xA9 ∷ 0x22 ∷ []) ≡ tree (string (0xC3 ∷ 0x83 ∷ 0xC2 ∷ 0xA9 ∷ []))
unfolding parse lex_after piece_at lexeme_at class_of inside any_surrogate scalar points_after character_at escape S.text encodings encoded
raw-read = refl

-- `#b0` and 128 ones: 2^128-1 by the standard; its 128 bits, read as signed, are -1
abbrev wide : List ℕ
wide = 0x30 ∷ replicate 128 0x31

wide-parsed : parse (bytes "#b" ++ wide) ≡ tree (image (one (binary wide)))
unfolding parse lex_after piece_at lexeme_at class_of span_by parsed all Run.from worth extended signed
wide-parsed = refl

wide_standard : signed_by 1 2 wide ≡ pos (2 ^ 128 - 1)
unfolding signed Run.from worth
wide_standard = refl

wide_read : signed 128 (twos (signed_by 1 2 wide)) ≡ negsuc 0
unfolding signed Run.from worth
wide_read = refl

abbrev below : ℤ → ℕ
below (pos n) = 0
below (negsuc n) = 1

pub too_wide : Kept (binary wide) → ⊥
too_wide e = let n : ◌≡◌ {A = ℕ} 1 0 = ap below (sym wide_read ∙ e ∙ wide_standard) in omega arith
