-- Document 01, "Bytes to tokens": how far what stands at a place reaches, by the class of its first byte.
use Rattle.std.specs.Prelude.{cond, List, [], ◌∷◌, ℕ, suc, ◌+◌, ltb, eqb, length}
use Rattle.words.specs.declared.digits.Radix.{Radix}
use Rattle.words.specs.declared.digits.Radix.TheVariants.{Binary, Decimal, Hexadecimal}
use Rattle.words.specs.Radix.{is_digit}
use Rattle.lexicon.specs.Class.{white_space, class_of, blank, opening, closing, comment, quote, hash, digit}
use Rattle.lexicon.specs.Span.{span_by, symbol_span, line_span}
use Rattle.tokens.specs.declared.lexeme.Kind.{Kind}
use Rattle.tokens.specs.declared.lexeme.Kind.TheVariants.{Blank, Opening, Closing, Bits, Number, Quoted, Name, Stray, Unclosed}
use Rattle.tokens.specs.declared.lexeme.Lexeme.{Lexeme}

-- a kind; how many bytes come before its content, how many the content has, and how many it takes in all
abbrev pub lexeme : Kind → ℕ → ℕ → ℕ → Lexeme
lexeme kind skip size width = record { kind = kind; skip = skip; size = size; width = width }

abbrev pub single : Kind → Lexeme
single kind = lexeme kind 0 0 1

-- the longest run of a radix's digits
abbrev pub run_span : Radix → List ℕ → ℕ
run_span r s = span_by (is_digit r) s

-- white space that comes first
abbrev pub blank_span : List ℕ → ℕ
blank_span s = span_by white_space s

-- the bytes up to the quote that closes a string, or to the end: two quotes close nothing
unfoldable pub inside : List ℕ → ℕ
inside [] = 0
inside (b ∷ []) = cond (eqb b 0x22) 0 1
inside (b ∷ c ∷ cs) = cond (eqb b 0x22) (cond (eqb c 0x22) (suc (suc (inside cs))) 0) (suc (inside (c ∷ cs)))

-- after the opening quote
abbrev pub after_quote : List ℕ → Lexeme
after_quote s = cond (ltb (inside s) (length s)) (lexeme Quoted 1 (inside s) (inside s + 2)) (lexeme Unclosed 0 0 (1 + length s))

-- after `#b` or `#x`
abbrev pub bit_vector : Radix → List ℕ → Lexeme
bit_vector r s = lexeme (Bits r) 2 (run_span r s) (2 + run_span r s)

-- after `#`: `b` or `x` and digits
abbrev pub after_hash : List ℕ → Lexeme
after_hash [] = single Stray
after_hash (b ∷ bs) = cond (eqb b 0x62) (bit_vector Binary bs) (cond (eqb b 0x78) (bit_vector Hexadecimal bs) (single Stray))

abbrev pub whole : Kind → ℕ → Lexeme
whole kind n = lexeme kind 0 n n

abbrev pub by_class : ℕ → ℕ → List ℕ → Lexeme
by_class k b bs =
    cond (eqb k blank) (single Blank)
    (cond (eqb k opening) (single Opening)
    (cond (eqb k closing) (single Closing)
    (cond (eqb k comment) (lexeme Blank 0 0 (1 + line_span bs))
    (cond (eqb k quote) (after_quote bs)
    (cond (eqb k hash) (after_hash bs)
    (cond (eqb k digit) (whole Number (run_span Decimal (b ∷ bs)))
    (whole Name (symbol_span (b ∷ bs)))))))))

unfoldable pub lexeme_at : List ℕ → Lexeme
lexeme_at [] = single Blank
lexeme_at (b ∷ bs) = by_class (class_of b) b bs
