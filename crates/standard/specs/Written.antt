-- SMT-LIB 2.7 §3.1, tokens and S-expressions: when bytes are one S-expression. Nothing here mentions our reader.
use Rattle.std.specs.Prelude.{◌≡◌, Bool, true, false, not, ◌&&◌, ◌||◌, List, [], ◌∷◌, ◌++◌, ℕ, eqb}
use Rattle.ground.specs.Lists.{all}
use Rattle.standard.specs.Bytes.{among, white_spaces, line_ends, enders, binary_digits, decimal_digits, hexadecimal_digits, symbol_starts, symbol_bytes, printable}

-- each with its digits or its bytes, without what marks its kind
pub data Atom : Type 0 where
  numeral : List ℕ → Atom
  decimal : List ℕ → List ℕ → Atom  -- before and after the point
  hexadecimal : List ℕ → Atom
  binary : List ℕ → Atom
  literal : List ℕ → Atom  -- between the quotes, a quote doubled
  simple : List ℕ → Atom  -- a simple symbol or a reserved word
  barred : List ℕ → Atom  -- a quoted symbol, between its bars
  keyword : List ℕ → Atom  -- after the colon

abbrev pub spelling : Atom → List ℕ
spelling (numeral ds) = ds
spelling (decimal ds es) = ds ++ (0x2E ∷ es)
spelling (hexadecimal ds) = 0x23 ∷ 0x78 ∷ ds
spelling (binary ds) = 0x23 ∷ 0x62 ∷ ds
spelling (literal s) = 0x22 ∷ (s ++ (0x22 ∷ []))
spelling (simple s) = s
spelling (barred s) = 0x7C ∷ (s ++ (0x7C ∷ []))
spelling (keyword s) = 0x3A ∷ s

-- a non-empty run
abbrev pub run : List ℕ → List ℕ → Bool
run allowed [] = false
run allowed (b ∷ bs) = all (among allowed) (b ∷ bs)

-- `0`, or a non-empty run of digits that does not start with `0`
abbrev pub is_numeral : List ℕ → Bool
is_numeral [] = false
is_numeral (b ∷ []) = among decimal_digits b
is_numeral (b ∷ c ∷ cs) = not (eqb b 0x30) && all (among decimal_digits) (b ∷ c ∷ cs)

-- a non-empty run that starts with no digit
abbrev pub is_simple : List ℕ → Bool
is_simple [] = false
is_simple (b ∷ bs) = among symbol_starts b && all (among symbol_bytes) bs

-- printable and white space bytes, a quote only doubled
pub data Inside : List ℕ → Type 0 where
  empty : Inside []
  byte : {b : ℕ} {s : List ℕ} → (printable b || among white_spaces b) ≡ true → eqb b 0x22 ≡ false → Inside s → Inside (b ∷ s)
  doubled : {s : List ℕ} → Inside s → Inside (0x22 ∷ 0x22 ∷ s)

abbrev pub in_bars : ℕ → Bool
in_bars b = (printable b || among white_spaces b) && not (eqb b 0x7C || eqb b 0x5C)

-- what the standard asks of each; that a simple symbol is no reserved word does not matter here, since both are S-expressions;
-- and a keyword is more than the standard's, whose simple symbol starts with no digit
abbrev pub WellFormed : Atom → Type 0
WellFormed (numeral ds) = is_numeral ds ≡ true
WellFormed (decimal ds es) = (is_numeral ds ≡ true) × (run decimal_digits es ≡ true)
WellFormed (hexadecimal ds) = run hexadecimal_digits ds ≡ true
WellFormed (binary ds) = run binary_digits ds ≡ true
WellFormed (literal s) = Inside s
WellFormed (simple s) = is_simple s ≡ true
WellFormed (barred s) = all in_bars s ≡ true
WellFormed (keyword s) = run symbol_bytes s ≡ true

pub data Token : Type 0 where
  opens : Token
  closes : Token
  atom : Atom → Token

-- the standard does not say where white space is needed: we ask for it, or a comment, between two atoms, and for none beside a bracket
abbrev pub ended : List ℕ → Bool
ended [] = true
ended (b ∷ bs) = among enders b

-- the bytes are the tokens in their order, with white space and comments between them
pub data Spells : List Token → List ℕ → Type 0 where
  nothing : Spells [] []
  white : {ts : List Token} {b : ℕ} {s : List ℕ} → among white_spaces b ≡ true → Spells ts s → Spells ts (b ∷ s)
  comment : {ts : List Token} (x : List ℕ) (e : ℕ) {s : List ℕ} → all (λ b. not (among line_ends b)) x ≡ true → among line_ends e ≡ true
      → Spells ts s → Spells ts (0x3B ∷ (x ++ (e ∷ s)))
  opening : {ts : List Token} {s : List ℕ} → Spells ts s → Spells (opens ∷ ts) (0x28 ∷ s)
  closing : {ts : List Token} {s : List ℕ} → Spells ts s → Spells (closes ∷ ts) (0x29 ∷ s)
  token : {ts : List Token} (a : Atom) {s : List ℕ} → WellFormed a → ended s ≡ true → Spells ts s → Spells (atom a ∷ ts) (spelling a ++ s)

-- an atom, or S-expressions between brackets
mutual
  pub data Expression : Type 0 where
    one : Atom → Expression
    several : Expressions → Expression

  pub data Expressions : Type 0 where
    none : Expressions
    first : Expression → Expressions → Expressions

-- its tokens, with others after them
abbrev mutual
  pub tokens : Expression → List Token → List Token
  tokens (one a) us = atom a ∷ us
  tokens (several xs) us = opens ∷ tokens_of xs (closes ∷ us)

  pub tokens_of : Expressions → List Token → List Token
  tokens_of none us = us
  tokens_of (first x xs) us = tokens x (tokens_of xs us)

abbrev pub Written : Expression → List ℕ → Type 0
Written x s = Spells (tokens x []) s
