-- Document 01, "Numbers given back", the bracket walk (5, 6, 1): tokens to one tree.
use Rattle.std.specs.Prelude.{List, [], ◌∷◌}
use Rattle.refusals.specs.declared.Refusal.{Refusal}
use Rattle.refusals.specs.declared.Refusal.TheVariants.{UnexpectedEnd, UnclosedSExpr, TrailingTokens}
use Rattle.arena.specs.Tree.{Tree, Trees, app, nil, cons}
use Rattle.brackets.specs.Token.{Token, opens, closes, atom, leaf}

-- one more tree at the end of a list
abbrev pub snoc : Trees → Tree → Trees
snoc nil t = cons t nil
snoc (cons k ks) t = cons k (snoc ks t)

-- inside brackets, the lists that are open, the innermost first; one whole tree; or refused
pub data Walk : Type 0 where
  going : List Trees → Walk
  done : Tree → Walk
  fault : Refusal → Walk

-- a tree that is whole goes to the innermost open list
abbrev pub add : List Trees → Tree → Walk
add [] t = done t
add (ks ∷ st) t = going (snoc ks t ∷ st)

-- a closing bracket with none open is 5
abbrev pub close : List Trees → Walk
close [] = fault UnclosedSExpr
close (ks ∷ st) = add st (app ks)

abbrev pub onward : List Trees → Token → Walk
onward st opens = going (nil ∷ st)
onward st closes = close st
onward st (atom a) = add st (leaf a)

-- a token after the whole tree is 6
abbrev pub step : Walk → Token → Walk
step (going st) x = onward st x
step (done t) x = fault TrailingTokens
step (fault n) x = fault n

abbrev pub walk : Walk → List Token → Walk
walk w [] = w
walk w (x ∷ xs) = walk (step w x) xs

pub data Outcome : Type 0 where
  tree : Tree → Outcome
  refused : Refusal → Outcome

-- brackets that are open at the end, or no token at all, are 1
abbrev pub finish : Walk → Outcome
finish (going st) = refused UnexpectedEnd
finish (done t) = tree t
finish (fault n) = refused n
