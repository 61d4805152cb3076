-- Every S-expression of the standard within our limits, written without what we read otherwise, is read as its image.
-- Assumes nothing.
use mathlib.Core.Path.{◌≡◌, refl, sym, ap, ◌∙◌}
use mathlib.Core.Bool.{true}
use mathlib.Core.List.{List, [], ◌∷◌}
use Prim.Native.Nat.{ℕ}
use Rattle.arena.specs.Tree.{Tree, Trees, nil}
use Rattle.brackets.specs.Token.{leaf}
use Rattle.brackets.specs.Walk.{snoc, going, add, walk, Outcome, tree, refused, finish}
use Rattle.brackets.proofs.Snoc.{chain, chain-nil, chain_snoc}
use Rattle.reader.specs.Read.{outcome, parse}
use Rattle.reader.proofs.Answers.{read_left}
use Rattle.standard.specs.Written.{Atom, numeral, decimal, hexadecimal, binary, literal, simple, barred, keyword, WellFormed, Token, closes, Expression, Expressions, one, several, none, first, tokens, tokens_of, Written}
use Rattle.standard.specs.Image.{image_of, image, images}
use Rattle.standard.specs.Limits.{Covered, Each, EachOf, Within, no_lone_return}
use Rattle.standard.specs.Agreement.{Kept, ReadAsImage}
use Rattle.standard.proofs.Vectors.{hexadecimal-held, binary-held}
use Rattle.standard.proofs.Texts.{atom_of, ours, OfTokens, formed, lex-spells}

leaf-is : (a : Atom) → leaf (atom_of a) ≡ image_of a
leaf-is (numeral ds) = refl
leaf-is (decimal ds es) = refl
leaf-is (hexadecimal ds) = refl
leaf-is (binary ds) = refl
leaf-is (literal s) = refl
leaf-is (simple s) = refl
leaf-is (barred s) = refl
leaf-is (keyword s) = refl

-- the tokens of an S-expression bring its image to the innermost open list
mutual
  walk-one : (x : Expression) (st : List Trees) (us : List Token) → walk (going st) (ours (tokens x us)) ≡ walk (add st (image x)) (ours us)
  walk-one (one a) st us = ap (λ (t : Tree). walk (add st t) (ours us)) (leaf-is a)
  walk-one (several xs) st us = walk-all xs nil st (closes ∷ us)

  walk-all : (xs : Expressions) (ks : Trees) (st : List Trees) (us : List Token)
      → walk (going (ks ∷ st)) (ours (tokens_of xs us)) ≡ walk (going (chain ks (images xs) ∷ st)) (ours us)
  walk-all none ks st us = ap (λ (l : Trees). walk (going (l ∷ st)) (ours us)) (sym (chain-nil ks))
  walk-all (first x xs) ks st us =
      walk-one x (ks ∷ st) (tokens_of xs us) ∙ walk-all xs (snoc ks (image x)) st us
      ∙ ap (λ (l : Trees). walk (going (l ∷ st)) (ours us)) (chain_snoc ks (image x) (images xs))

-- what is asked of each atom of an S-expression is asked of each among its tokens, and the other way round
module _ (Asked : Atom → Type 0) where
  mutual
    among : (x : Expression) (us : List Token) → Each Asked x → OfTokens Asked us → OfTokens Asked (tokens x us)
    among (one a) us h c = (h, c)
    among (several xs) us h c = (tt, among-all xs (closes ∷ us) h (tt, c))

    among-all : (xs : Expressions) (us : List Token) → EachOf Asked xs → OfTokens Asked us → OfTokens Asked (tokens_of xs us)
    among-all none us h c = c
    among-all (first x xs) us h c = among x (tokens_of xs us) h.0 (among-all xs us h.1 c)

  mutual
    each : (x : Expression) (us : List Token) → OfTokens Asked (tokens x us) → Each Asked x × OfTokens Asked us
    each (one a) us c = c
    each (several xs) us c = let k = each_of xs (closes ∷ us) c.1 in (k.0, k.1.1)

    each_of : (xs : Expressions) (us : List Token) → OfTokens Asked (tokens_of xs us) → EachOf Asked xs × OfTokens Asked us
    each_of none us c = (tt, c)
    each_of (first x xs) us c = let k = each x (tokens_of xs us) c in let l = each_of xs us k.1 in ((k.0, l.0), l.1)

kept : (a : Atom) → WellFormed a → Covered a → Kept a
kept (numeral ds) h c = tt
kept (decimal ds es) h c = tt
kept (hexadecimal ds) h c = (hexadecimal-held ds h c).kept
kept (binary ds) h c = (binary-held ds h c).kept
kept (literal s) h c = tt
kept (simple s) h c = tt
kept (barred s) h c = tt
kept (keyword s) h c = tt

mutual
  kept-each : (x : Expression) → Each WellFormed x → Within x → Each Kept x
  kept-each (one a) h c = kept a h c
  kept-each (several xs) h c = kept-all xs h c

  kept-all : (xs : Expressions) → EachOf WellFormed xs → EachOf Covered xs → EachOf Kept xs
  kept-all none h c = tt
  kept-all (first x xs) h c = (kept-each x h.0 c.0, kept-all xs h.1 c.1)

read-parsed : (x : Expression) (s : List ℕ) (w : Written x s) → Within x → no_lone_return w ≡ true → parse s ≡ tree (image x)
unfolding parse
read-parsed x s w h k = ap outcome (lex-spells w (among Covered x [] h tt) k) ∙ ap finish (walk-one x [] [])

pub standard_read : (x : Expression) (s : List ℕ) (w : Written x s) → ReadAsImage x s w
standard_read x s w = record {
  parsed = read-parsed x s w;
  left = λ h k l N T S. read_left s N T S (image x) (read-parsed x s w h k) l;
  signs = kept-each x (each WellFormed x [] (formed w)).0;
}

abbrev tree_or : Tree → Outcome → Tree
tree_or other (tree t) = t
tree_or other (refused why) = other

-- so bytes that are two such S-expressions stand for one tree
pub one-image : (x y : Expression) (s : List ℕ) (v : Written x s) (w : Written y s) → Within x → Within y → no_lone_return v ≡ true → no_lone_return w ≡ true
    → image x ≡ image y
one-image x y s v w h k p q = ap (tree_or (image x)) (sym ((standard_read x s v).parsed h p) ∙ (standard_read y s w).parsed k q)
