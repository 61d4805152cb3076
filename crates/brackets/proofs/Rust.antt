-- The bracket walk in the shape of the Rust's `parse_sexpr`, which pushes, pops and looks whether a token is the last one, is ours.
-- Assumes nothing.
use mathlib.Core.Path.{◌≡◌, refl, ap}
use mathlib.Core.List.{List, [], ◌∷◌}
use Rattle.arena.specs.Tree.{Tree, Trees, app, nil}
use Rattle.brackets.specs.Token.{Token, opens, closes, atom, leaf}
use Rattle.brackets.specs.Walk.{snoc, going, done, fault, walk, Outcome, tree, refused, finish}
use Rattle.refusals.specs.declared.Refusal.{Refusal}
use Rattle.refusals.specs.declared.Refusal.TheVariants.{UnexpectedEnd, UnclosedSExpr, TrailingTokens}

abbrev pub last : Tree → List Token → Outcome
last t [] = tree t
last t (x ∷ ts) = refused TrailingTokens

abbrev pub rust : List Token → List Trees → Outcome
rust [] st = refused UnexpectedEnd
rust (opens ∷ ts) st = rust ts (nil ∷ st)
rust (closes ∷ ts) [] = refused UnclosedSExpr
rust (closes ∷ ts) (ks ∷ []) = last (app ks) ts
rust (closes ∷ ts) (ks ∷ ps ∷ st) = rust ts (snoc ps (app ks) ∷ st)
rust (atom b ∷ ts) [] = last (leaf b) ts
rust (atom b ∷ ts) (ks ∷ st) = rust ts (snoc ks (leaf b) ∷ st)

pub stuck : (n : Refusal) (ts : List Token) → walk (fault n) ts ≡ fault n
stuck n [] = refl
stuck n (x ∷ ts) = stuck n ts

ended : (t : Tree) (ts : List Token) → finish (walk (done t) ts) ≡ last t ts
ended t [] = refl
ended t (x ∷ ts) = ap finish (stuck TrailingTokens ts)

pub as_rust : (ts : List Token) (st : List Trees) → finish (walk (going st) ts) ≡ rust ts st
as_rust [] st = refl
as_rust (opens ∷ ts) st = as_rust ts (nil ∷ st)
as_rust (closes ∷ ts) [] = ap finish (stuck UnclosedSExpr ts)
as_rust (closes ∷ ts) (ks ∷ []) = ended (app ks) ts
as_rust (closes ∷ ts) (ks ∷ ps ∷ st) = as_rust ts (snoc ps (app ks) ∷ st)
as_rust (atom b ∷ ts) [] = ended (leaf b) ts
as_rust (atom b ∷ ts) (ks ∷ st) = as_rust ts (snoc ks (leaf b) ∷ st)
