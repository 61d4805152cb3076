-- Document 01, "Bytes to tokens" and "Numbers given back": the tokens of the input, or the first lexical fault from the left.
use Rattle.std.specs.Prelude.{cond, List, [], ◌∷◌, ℕ, zero, suc, ◌-◌, ◌*◌, length, take, drop, Err, Ok, Result}
use Rattle.refusals.specs.declared.Refusal.{Refusal}
use Rattle.refusals.specs.declared.Refusal.TheVariants.{UnexpectedEnd, Utf8Error, StringParseError}
use Rattle.words.specs.declared.digits.Radix.{Radix}
use Rattle.words.specs.declared.digits.Radix.TheVariants.{Binary, Decimal, Hexadecimal}
use Rattle.words.specs.Pair.{value}
use Rattle.words.specs.Run.{parsed}
use Rattle.words.specs.Extension.{extended}
use Rattle.utf8.specs.Octets.{utf8}
use Rattle.strings.specs.Points.{points}
use Rattle.strings.specs.Text.{text, any_surrogate}
use Rattle.brackets.specs.Token.{Atom, bits, number, quoted, name, Token, opens, closes, atom, atom_text}
use Rattle.tokens.specs.declared.lexeme.Kind.{Kind}
use Rattle.tokens.specs.declared.lexeme.Kind.TheVariants as K
use Rattle.tokens.specs.Lexeme.{lexeme_at}
use Rattle.words.specs.declared.pair.Pair.{Pair}

-- white space or a comment; a token; a lexical fault
pub data Piece : Type 0 where
  space : Piece
  token : Token → Piece
  wrong : Refusal → Piece

abbrev pub from_parsed : Result Pair Refusal → (ℕ → Atom) → Piece
from_parsed (Ok p) make = token (atom (make (value p)))
from_parsed (Err why) make = wrong why

-- how many bits a digit stands for
abbrev pub bits_of : Radix → ℕ
bits_of Binary = 1
bits_of Decimal = 0
bits_of Hexadecimal = 4

-- what a lexeme with this content is
abbrev pub piece_of : Kind → List ℕ → Piece
piece_of K.Blank x = space
piece_of K.Opening x = token opens
piece_of K.Closing x = token closes
piece_of (K.Bits r) x = from_parsed (parsed r x) (λ n. bits (bits_of r * length x) (extended (bits_of r * length x) n))
piece_of K.Number x = from_parsed (parsed Decimal x) (λ n. number n)
piece_of K.Quoted x = cond (any_surrogate (points x)) (wrong StringParseError) (token (atom (quoted (text x))))
piece_of K.Name x = cond (utf8 x) (token (atom (name x))) (wrong Utf8Error)
piece_of K.Stray x = wrong UnexpectedEnd
piece_of K.Unclosed x = wrong UnexpectedEnd

unfoldable pub piece_at : List ℕ → Piece
piece_at s = piece_of (lexeme_at s).kind (take (lexeme_at s).size (drop (lexeme_at s).skip s))

-- how many bytes of text a piece brings, or its fault
abbrev pub sized_token : Token → Result ℕ Refusal
sized_token opens = Ok 0
sized_token closes = Ok 0
sized_token (atom a) = Ok (length (atom_text a))

abbrev pub sized_of : Piece → Result ℕ Refusal
sized_of space = Ok 0
sized_of (token x) = sized_token x
sized_of (wrong why) = Err why

-- the same of a number, a string and a name
abbrev pub sized_number : Result Pair Refusal → Result ℕ Refusal
sized_number (Ok p) = Ok 0
sized_number (Err why) = Err why

abbrev pub sized_string : List ℕ → Result ℕ Refusal
sized_string x = cond (any_surrogate (points x)) (Err StringParseError) (Ok (length (text x)))

abbrev pub sized_name : List ℕ → Result ℕ Refusal
sized_name x = cond (utf8 x) (Ok (length x)) (Err Utf8Error)

pub data Lexed : Type 0 where
  ok : List Token → Lexed
  bad : Refusal → Lexed

abbrev pub more : Token → Lexed → Lexed
more x (ok xs) = ok (x ∷ xs)
more x (bad why) = bad why

abbrev pub emit : Piece → Lexed → Lexed
emit space r = r
emit (token x) r = more x r
emit (wrong why) r = bad why

-- k bytes still belong to what stands before them
unfoldable pub lex_after : ℕ → List ℕ → Lexed
lex_after k [] = ok []
lex_after zero (b ∷ bs) = emit (piece_at (b ∷ bs)) (lex_after ((lexeme_at (b ∷ bs)).width - 1) bs)
lex_after (suc k) (b ∷ bs) = lex_after k bs

abbrev pub lex : List ℕ → Lexed
lex s = lex_after 0 s
