-- Document 01, "Bytes to tokens", beside SMT-LIB 2.7 §3.1: our limits, and where we depart from the standard.
use Rattle.std.specs.Prelude.{◌≡◌, Bool, true, ◌&&◌, ◌||◌, List, [], ◌∷◌, ℕ, ◌*◌, ◌<◌, ◌^◌, ltb, eqb, length}
use Rattle.words.specs.Run.{number}
use Rattle.utf8.specs.Octets.{utf8}
use Rattle.theory.specs.Agreement.{no_six_digits, no_surrogate}
use Rattle.lexicon.specs.Span.{in_symbol}
use Rattle.ground.specs.Lists.{all}
use Rattle.standard.specs.Bytes.{among, white_spaces}
use Rattle.standard.specs.Written.{Atom, numeral, decimal, hexadecimal, binary, literal, simple, barred, keyword, Expression, Expressions, one, several, none, first, Token, Spells, nothing, white, comment, opening, closing, token}

-- LIMIT: a numeral of 2^128 or more is refused (4)
abbrev pub Small : List ℕ → Type 0
Small ds = number 10 ds < 2 ^ 128

-- DEPARTURE: of a bit vector wider than 128 the 128 bits are read as signed, so a number of 2^127 or more is read as a negative one;
-- LIMIT: one of 2^128 or more is refused (4)
abbrev pub Narrow : ℕ → ℕ → List ℕ → Type 0
Narrow per base ds = 128 < per * length ds → number base ds < 2 ^ 127

-- DEPARTURE: a byte from 80 hex on in a literal is the code point of its number, not a part of a character's UTF-8
abbrev pub no_raw_byte : List ℕ → Bool
no_raw_byte s = all (λ b. ltb b 0x80) s

pub record Plain (s : List ℕ) : Type 0 where
  pub raw : no_raw_byte s ≡ true
  pub six : no_six_digits s ≡ true
  pub surrogate : no_surrogate s ≡ true

-- DEPARTURE: bars are read as bytes of symbols, so that what stands between them has to go on a symbol of ours, in UTF-8
pub record Unbroken (s : List ℕ) : Type 0 where
  pub goes : all in_symbol s ≡ true
  pub encoded : utf8 s ≡ true

-- LIMIT: no decimals, which are read as a numeral and a symbol
abbrev pub Covered : Atom → Type 0
Covered (numeral ds) = Small ds
Covered (decimal ds es) = ⊥
Covered (hexadecimal ds) = Narrow 4 16 ds
Covered (binary ds) = Narrow 1 2 ds
Covered (literal s) = Plain s
Covered (simple s) = Unit {0}
Covered (barred s) = Unbroken s
Covered (keyword s) = Unit {0}

-- what is asked of each atom
module _ (Asked : Atom → Type 0) where
  abbrev mutual
    pub Each : Expression → Type 0
    Each (one a) = Asked a
    Each (several xs) = EachOf xs

    pub EachOf : Expressions → Type 0
    EachOf none = Unit {0}
    EachOf (first x xs) = Each x × EachOf xs

abbrev pub Within : Expression → Type 0
Within x = Each Covered x

-- up to a line feed or the end there is nothing but white space, or a comment more
unfoldable pub blank_line : List ℕ → Bool
blank_line [] = true
blank_line (b ∷ bs) = eqb b 0x0A || eqb b 0x3B || among white_spaces b && blank_line bs

abbrev pub line_fed : ℕ → List ℕ → Bool
line_fed e s = eqb e 0x0A || blank_line s

-- DEPARTURE: a carriage return alone ends no comment, so that no token may stand between it and the end of its line
abbrev pub no_lone_return : {ts : List Token} {s : List ℕ} → Spells ts s → Bool
no_lone_return nothing = true
no_lone_return (white h w) = no_lone_return w
no_lone_return (comment x e {s} h k w) = line_fed e s && no_lone_return w
no_lone_return (opening w) = no_lone_return w
no_lone_return (closing w) = no_lone_return w
no_lone_return (token a h k w) = no_lone_return w
