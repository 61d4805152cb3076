-- A walk that ends in a whole tree never has more than that tree.
-- Assumes nothing.
use mathlib.Core.Path.{◌≡◌}
use mathlib.Core.List.{List, [], ◌∷◌}
use Prim.Native.Nat.{ℕ, ◌+◌, ◌≤◌, max}
use native.Mathlib.Omega.{arith}
use lib.ListN.{length, length-append}
use Rattle.arena.specs.Tree.{Tree, Trees, app, nil, nodes, text, texts, depth}
use Rattle.brackets.specs.Token.{Token, opens, closes, atom, leaf}
use Rattle.brackets.specs.Walk.{snoc, Walk, going, done, fault, add, onward, step, walk}
use Rattle.brackets.proofs.Snoc.{nodes_of-snoc, texts-snoc, depth_of-snoc}
use Rattle.brackets.proofs.Frames.{laid_n, laid_t, laid_d}

pub len_snoc : (ks : Trees) (t : Tree) → length (texts (snoc ks t)) ≡ length (texts ks) + length (text t)
len_snoc ks t = rw (texts-snoc ks t) (length-append (texts ks) (text t))

pub len_text : (ks : Trees) (st : List Trees) → length (laid_t (ks ∷ st)) ≡ length (laid_t st) + length (texts ks)
len_text ks st = length-append (laid_t st) (texts ks)

pub deep : (st : List Trees) → length st ≤ laid_d st
deep [] = omega arith
deep (ks ∷ st) = omega arith

pub record Below (st : List Trees) (t : Tree) : Type 0 where
  pub nodes : laid_n st ≤ nodes t
  pub text : length (laid_t st) ≤ length (text t)
  pub depth : laid_d st ≤ depth t

abbrev pub Upto : Walk → Tree → Type 0
Upto (going st) t = Below st t
Upto (done k) t = k ≡ t
Upto (fault n) t = ⊥

-- a tree that is added is within the whole
pub record Added (st : List Trees) (k t : Tree) : Type 0 where
  pub nodes : laid_n st + nodes k ≤ nodes t
  pub text : length (laid_t st) + length (text k) ≤ length (text t)
  pub depth : max (laid_d st) (length st + depth k) ≤ depth t

pub upto_add : (st : List Trees) (k t : Tree) → Upto (add st k) t → Added st k t
upto_add [] k t h = rw (← h) (record { nodes = omega arith; text = omega arith; depth = omega arith })
upto_add (ps ∷ st) k t h =
    record {
      nodes = omega (arith, nodes_of-snoc ps k, h.nodes);
      text = omega (arith, len_snoc ps k, len_text ps st, len_text (snoc ps k) st, h.text);
      depth = omega (arith, depth_of-snoc ps k, h.depth);
    }

upto-on : (st : List Trees) (x : Token) (t : Tree) → Upto (onward st x) t → Below st t
upto-on st opens t h = record { nodes = omega (arith, h.nodes); text = omega (arith, len_text nil st, h.text); depth = omega (arith, h.depth) }
upto-on [] closes t h = absurd h
upto-on (ks ∷ st) closes t h =
    let a = upto_add st (app ks) t h in
    record { nodes = omega (arith, a.nodes); text = omega (arith, len_text ks st, a.text); depth = omega (arith, a.depth) }
upto-on st (atom b) t h =
    let a = upto_add st (leaf b) t h in
    record { nodes = omega (arith, a.nodes); text = omega (arith, a.text); depth = omega (arith, a.depth) }

upto_step : (w : Walk) (x : Token) (t : Tree) → Upto (step w x) t → Upto w t
upto_step (going st) x t h = upto-on st x t h
upto_step (done k) x t h = absurd h
upto_step (fault n) x t h = absurd h

pub upto : (ts : List Token) (w : Walk) (t : Tree) → walk w ts ≡ done t → Upto w t
upto [] (going st) t e = let z : ◌≡◌ {A = ℕ} 0 1 = cc in absurd (omega arith)
upto [] (done k) t e = cc
upto [] (fault n) t e = let z : ◌≡◌ {A = ℕ} 0 1 = cc in omega arith
upto (x ∷ ts) w t e = upto_step w x t (upto ts (step w x) t e)
