-- Document 01, "Bytes to tokens" and "The arena": the tree that stands for an S-expression of the standard.
use Rattle.std.specs.Prelude.{List, [], ◌∷◌, ◌++◌, ℕ, suc, ◌-◌, ◌*◌, ◌^◌, ℤ, pos, negsuc, length}
use Rattle.words.specs.Run.{number}
use Rattle.words.specs.Extension.{signed}
use Rattle.strings.specs.Text.{encodings}
use Rattle.theory.specs.Literal.{unquoted}
use Rattle.theory.specs.Theory.{characters}
use Rattle.arena.specs.Tree as T
use Rattle.arena.specs.Tree.{Tree, Trees, bit_vec, string, symbol, app, nil, cons}
use Rattle.standard.specs.Written.{Atom, numeral, decimal, hexadecimal, binary, literal, simple, barred, keyword, Expression, Expressions, one, several, none, first}

-- the number of a bit vector of so many bits a digit, signed at its width
abbrev pub signed_by : ℕ → ℕ → List ℕ → ℤ
signed_by per base ds = signed (per * length ds) (number base ds)

-- 128 bits of two's complement
abbrev pub twos : ℤ → ℕ
twos (pos n) = n
twos (negsuc n) = 2 ^ 128 - suc n

abbrev pub vector : ℕ → ℕ → List ℕ → Tree
vector per base ds = bit_vec (per * length ds) (twos (signed_by per base ds))

-- a literal is the UTF-8 of the theory's characters; a quoted symbol keeps its bars, a keyword its colon;
-- no tree stands for a decimal, which the limits shut out
abbrev pub image_of : Atom → Tree
image_of (numeral ds) = T.numeral (number 10 ds)
image_of (decimal ds es) = symbol (ds ++ (0x2E ∷ es))
image_of (hexadecimal ds) = vector 4 16 ds
image_of (binary ds) = vector 1 2 ds
image_of (literal s) = string (encodings (characters (unquoted s)))
image_of (simple s) = symbol s
image_of (barred s) = symbol (0x7C ∷ (s ++ (0x7C ∷ [])))
image_of (keyword s) = symbol (0x3A ∷ s)

abbrev mutual
  pub image : Expression → Tree
  image (one a) = image_of a
  image (several xs) = app (images xs)

  pub images : Expressions → Trees
  images none = nil
  images (first x xs) = cons (image x) (images xs)
