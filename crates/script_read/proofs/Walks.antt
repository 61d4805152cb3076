-- The tokens of one tree bring it to the innermost open list, whatever lists are open.
-- Assumes nothing.
use mathlib.Core.Path.{◌≡◌, refl, sym, ap, ◌∙◌}
use mathlib.Core.Bool.{Bool, true, false, false≢true}
use mathlib.Core.List.{List, [], ◌∷◌, ◌++◌}
use Rattle.refusals.specs.declared.Refusal.{Refusal}
use Rattle.arena.specs.Tree.{Tree, Trees, app, nil}
use Rattle.brackets.specs.Token.{Token, opens, closes, atom, leaf}
use Rattle.brackets.specs.Walk.{snoc, Walk, going, done, fault, add, close, step, walk, Outcome, tree, refused}
use Rattle.brackets.proofs.Rust.{stuck}

pub walk-append : (w : Walk) (xs ys : List Token) → walk w (xs ++ ys) ≡ walk (walk w xs) ys
walk-append w [] ys = refl
walk-append w (x ∷ xs) ys = walk-append (step w x) xs ys

-- the tree of a walk that has it
abbrev tree_or : Tree → Walk → Tree
tree_or other (going st) = other
tree_or other (done t) = t
tree_or other (fault why) = other

abbrev is_done : Walk → Bool
is_done (going st) = false
is_done (done t) = true
is_done (fault why) = false

clash : {w : Walk} {t : Tree} {P : Type 0} → is_done w ≡ false → w ≡ done t → P
clash h e = absurd (false≢true (sym h ∙ ap is_done e))

-- below the lists that are open in the walk of one tree, others may be
module _ (st : List Trees) (t : Tree) where
  abbrev Below : List Token → List Trees → Type 0
  Below xs ss = walk (going ss) xs ≡ done t → walk (going (ss ++ st)) xs ≡ add st t

  below-add : (xs : List Token) → ((ss : List Trees) → Below xs ss) → (ss : List Trees) (k : Tree) → walk (add ss k) xs ≡ done t → walk (add (ss ++ st) k) xs ≡ add st t
  below-add [] f [] k h = ap (add st) (ap (tree_or k) h)
  below-add (x ∷ xs) f [] k h = clash (ap is_done (stuck _ xs)) h
  below-add xs f (ks ∷ ss) k h = f (snoc ks k ∷ ss) h

  below-close : (xs : List Token) → ((ss : List Trees) → Below xs ss) → (ss : List Trees) → walk (close ss) xs ≡ done t → walk (close (ss ++ st)) xs ≡ add st t
  below-close xs f [] h = clash (ap is_done (stuck _ xs)) h
  below-close xs f (ks ∷ ss) h = below-add xs f ss (app ks) h

  pub below : (xs : List Token) (ss : List Trees) → Below xs ss
  below [] ss h = clash refl h
  below (opens ∷ xs) ss h = below xs (nil ∷ ss) h
  below (closes ∷ xs) ss h = below-close xs (below xs) ss h
  below (atom a ∷ xs) ss h = below-add xs (below xs) ss (leaf a) h

abbrev is_tree : Outcome → Bool
is_tree (tree t) = true
is_tree (refused why) = false

pub no-tree : {why : Refusal} {t : Tree} {P : Type 0} → refused why ≡ tree t → P
no-tree e = absurd (false≢true (ap is_tree e))
