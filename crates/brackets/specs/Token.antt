-- Document 01, "Bytes to tokens": the tokens, and the tree of one node that an atom is.
use Rattle.std.specs.Prelude.{List, [], ℕ, length}
use Rattle.arena.specs.Tree.{Tree, bit_vec, numeral, string, symbol}
use Rattle.arena.specs.Layout.{bit_vec_words, numeral_words, string_words, symbol_words}

-- a bit vector's width and its number of 128 bits, a numeral, a string's text, a symbol's bytes
pub data Atom : Type 0 where
  bits : ℕ → ℕ → Atom
  number : ℕ → Atom
  quoted : List ℕ → Atom
  name : List ℕ → Atom

pub data Token : Type 0 where
  opens : Token
  closes : Token
  atom : Atom → Token

abbrev pub leaf : Atom → Tree
leaf (bits w n) = bit_vec w n
leaf (number n) = numeral n
leaf (quoted s) = string s
leaf (name s) = symbol s

abbrev pub atom_text : Atom → List ℕ
atom_text (bits w n) = []
atom_text (number n) = []
atom_text (quoted s) = s
atom_text (name s) = s

-- its node's words, where its text begins at x
abbrev pub atom_words : Atom → ℕ → List ℕ
atom_words (bits w n) x = bit_vec_words w n
atom_words (number n) x = numeral_words n
atom_words (quoted s) x = string_words (length s) x
atom_words (name s) x = symbol_words (length s) x
