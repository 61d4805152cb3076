-- The tokens that ours finds in bytes that spell tokens of the standard.
-- Assumes nothing.
use mathlib.Core.Path.{◌≡◌, ap, ◌∙◌}
use mathlib.Core.Bool.{true}
use mathlib.Core.List.{List, [], ◌∷◌, ◌++◌}
use Prim.Native.Nat.{ℕ, ◌*◌}
use lib.ListN.{length}
use Rattle.ground.proofs.Tests.{both_left, both_right}
use Rattle.words.specs.Run as Run
use Rattle.words.specs.Extension.{extended}
use Rattle.strings.specs.Text.{encodings}
use Rattle.theory.specs.Literal.{unquoted}
use Rattle.theory.specs.Theory.{characters}
use Rattle.brackets.specs.Token as B
use Rattle.brackets.specs.Token.{bits, number, quoted, name}
use Rattle.tokens.specs.Piece.{ok, more, lex}
use Rattle.tokens.proofs.Lexes.{lex-nil, lex-opening, lex-closing}
use Rattle.standard.specs.Written.{Atom, numeral, decimal, hexadecimal, binary, literal, simple, barred, keyword, spelling, WellFormed, Token, opens, closes, atom, ended, Spells, nothing, white, comment, opening, closing, token}
use Rattle.standard.specs.Image.{signed_by, twos}
use Rattle.standard.specs.Limits.{Covered, line_fed, no_lone_return}
use Rattle.standard.proofs.Separators.{lex-white, lex-comment}
use Rattle.standard.proofs.Numbers.{lex-numeral, lex-hexadecimal, lex-binary}
use Rattle.standard.proofs.Vectors.{Held, hexadecimal-held, binary-held}
use Rattle.standard.proofs.Names.{lex-simple, lex-keyword, lex-barred}
use Rattle.standard.proofs.Literals.{lex-literal}

abbrev vector_of : ℕ → ℕ → List ℕ → B.Atom
vector_of per base ds = bits (per * length ds) (twos (signed_by per base ds))

-- our atom for each of the standard's
abbrev pub atom_of : Atom → B.Atom
atom_of (numeral ds) = number (Run.number 10 ds)
atom_of (decimal ds es) = name (ds ++ (0x2E ∷ es))
atom_of (hexadecimal ds) = vector_of 4 16 ds
atom_of (binary ds) = vector_of 1 2 ds
atom_of (literal s) = quoted (encodings (characters (unquoted s)))
atom_of (simple s) = name s
atom_of (barred s) = name (0x7C ∷ (s ++ (0x7C ∷ [])))
atom_of (keyword s) = name (0x3A ∷ s)

abbrev pub token_of : Token → B.Token
token_of opens = B.opens
token_of closes = B.closes
token_of (atom a) = B.atom (atom_of a)

abbrev pub ours : List Token → List B.Token
ours [] = []
ours (t ∷ ts) = token_of t ∷ ours ts

-- what is asked of each atom among tokens
module _ (Asked : Atom → Type 0) where
  abbrev pub OfToken : Token → Type 0
  OfToken opens = Unit {0}
  OfToken closes = Unit {0}
  OfToken (atom a) = Asked a

  abbrev pub OfTokens : List Token → Type 0
  OfTokens [] = Unit {0}
  OfTokens (t ∷ ts) = OfToken t × OfTokens ts

-- the atoms of a text are well formed
pub formed : {ts : List Token} {s : List ℕ} → Spells ts s → OfTokens WellFormed ts
formed nothing = tt
formed (white h w) = formed w
formed (comment x e h l w) = formed w
formed (opening w) = (tt, formed w)
formed (closing w) = (tt, formed w)
formed (token a h e w) = (h, formed w)

-- ours hold the number of a bit vector's image
vector-same : (per base : ℕ) (ds s : List ℕ) → Held per base ds
    → more (B.atom (bits (per * length ds) (extended (per * length ds) (Run.number base ds)))) (lex s) ≡ more (B.atom (vector_of per base ds)) (lex s)
vector-same per base ds s h = ap (λ (k : ℕ). more (B.atom (bits (per * length ds) k)) (lex s)) h.same

lex-atom : (a : Atom) (s : List ℕ) → WellFormed a → Covered a → ended s ≡ true → lex (spelling a ++ s) ≡ more (B.atom (atom_of a)) (lex s)
lex-atom (numeral ds) s h c e = lex-numeral ds s h c e
lex-atom (decimal ds es) s h c e = absurd c
lex-atom (hexadecimal ds) s h c e = let v = hexadecimal-held ds h c in lex-hexadecimal ds s h v.small e ∙ vector-same 4 16 ds s v
lex-atom (binary ds) s h c e = let v = binary-held ds h c in lex-binary ds s h v.small e ∙ vector-same 1 2 ds s v
lex-atom (literal x) s h c e = lex-literal x s h c e
lex-atom (simple x) s h c e = lex-simple x s h e
lex-atom (barred x) s h c e = lex-barred x s c e
lex-atom (keyword x) s h c e = lex-keyword x s h e

pub lex-spells : {ts : List Token} {s : List ℕ} (w : Spells ts s) → OfTokens Covered ts → no_lone_return w ≡ true → lex s ≡ ok (ours ts)
lex-spells nothing c k = lex-nil
lex-spells (white {ts} {b} {s} h w) c k = lex-white b s h ∙ lex-spells w c k
lex-spells (comment {ts} x e {s} h l w) c k =
    lex-comment x e s h (both_left (line_fed e s) (no_lone_return w) k) ∙ lex-spells w c (both_right (line_fed e s) (no_lone_return w) k)
lex-spells (opening {ts} {s} w) c k = lex-opening s ∙ ap (more B.opens) (lex-spells w c.1 k)
lex-spells (closing {ts} {s} w) c k = lex-closing s ∙ ap (more B.closes) (lex-spells w c.1 k)
lex-spells (token {ts} a {s} h e w) c k = lex-atom a s h c.0 e ∙ ap (more (B.atom (atom_of a))) (lex-spells w c.1 k)
