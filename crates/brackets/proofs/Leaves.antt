-- An atom as a tree of one node.
-- Assumes nothing.
use mathlib.Core.Path.{◌≡◌, refl}
use Prim.Native.Nat.{ℕ}
use lib.ListN.{length}
use Rattle.arena.specs.Tree.{nodes, text, depth}
use Rattle.arena.specs.Layout.{stride, words}
use Rattle.brackets.specs.Token.{Atom, bits, number, quoted, name, leaf, atom_text, atom_words}

pub nodes-leaf : (a : Atom) → nodes (leaf a) ≡ 1
nodes-leaf (bits w n) = refl
nodes-leaf (number n) = refl
nodes-leaf (quoted s) = refl
nodes-leaf (name s) = refl

pub text-leaf : (a : Atom) → text (leaf a) ≡ atom_text a
text-leaf (bits w n) = refl
text-leaf (number n) = refl
text-leaf (quoted s) = refl
text-leaf (name s) = refl

pub depth-leaf : (a : Atom) → depth (leaf a) ≡ 0
depth-leaf (bits w n) = refl
depth-leaf (number n) = refl
depth-leaf (quoted s) = refl
depth-leaf (name s) = refl

pub words-leaf : (a : Atom) (i x : ℕ) → words (leaf a) i x ≡ atom_words a x
words-leaf (bits w n) i x = refl
words-leaf (number n) i x = refl
words-leaf (quoted s) i x = refl
words-leaf (name s) i x = refl

pub length-leaf : (a : Atom) (x : ℕ) → length (atom_words a x) ≡ stride
length-leaf (bits w n) x = refl
length-leaf (number n) x = refl
length-leaf (quoted s) x = refl
length-leaf (name s) x = refl
