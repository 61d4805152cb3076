-- One tree more at the end of a list of trees, and other trees after them.
-- Assumes nothing.
use mathlib.Core.Path.{◌≡◌, refl, sym, ap, ◌∙◌}
use mathlib.Core.List.{◌++◌, append_assoc, append-nil}
use Prim.Native.Nat.{ℕ, suc, ◌+◌, max}
use native.Mathlib.Nat.{add-zero, add_assoc}
use native.Mathlib.Omega.{arith}
use lib.ListN.{length, length-append}
use Rattle.arena.specs.Tree.{Tree, Trees, nil, cons, count, nodes, nodes_of, text, texts, depth, depth_of}
use Rattle.arena.specs.Layout.{words, words_of}
use Rattle.brackets.specs.Walk.{snoc}

pub count-snoc : (ks : Trees) (t : Tree) → count (snoc ks t) ≡ suc (count ks)
count-snoc nil t = refl
count-snoc (cons k ks) t = ap suc (count-snoc ks t)

pub nodes_of-snoc : (ks : Trees) (t : Tree) → nodes_of (snoc ks t) ≡ nodes_of ks + nodes t
nodes_of-snoc nil t = omega arith
nodes_of-snoc (cons k ks) t = omega (arith, nodes_of-snoc ks t)

pub texts-snoc : (ks : Trees) (t : Tree) → texts (snoc ks t) ≡ texts ks ++ text t
texts-snoc nil t = append-nil (text t)
texts-snoc (cons k ks) t = rw (texts-snoc ks t) (sym (append_assoc (text k) (texts ks) (text t)))

pub depth_of-snoc : (ks : Trees) (t : Tree) → depth_of (snoc ks t) ≡ max (depth_of ks) (depth t)
depth_of-snoc nil t = omega arith
depth_of-snoc (cons k ks) t = omega (arith, depth_of-snoc ks t)

pub words_of-snoc : (ks : Trees) (t : Tree) (n x : ℕ) → words_of (snoc ks t) n x ≡ words_of ks n x ++ words t (n + nodes_of ks) (x + length (texts ks))
words_of-snoc nil t n x = simp (append-nil, add-zero)
words_of-snoc (cons k ks) t n x =
    rw (words_of-snoc ks t (n + nodes k) (x + length (text k)))
    (simp (append_assoc, length-append, add_assoc))

-- trees after others
abbrev pub chain : Trees → Trees → Trees
chain nil ts = ts
chain (cons k ks) ts = cons k (chain ks ts)

pub chain-nil : (ks : Trees) → chain ks nil ≡ ks
chain-nil nil = refl
chain-nil (cons k ks) = ap (cons k) (chain-nil ks)

pub chain-chain : (ks ts us : Trees) → chain (chain ks ts) us ≡ chain ks (chain ts us)
chain-chain nil ts us = refl
chain-chain (cons k ks) ts us = ap (cons k) (chain-chain ks ts us)

pub chain-one : (ks : Trees) (t : Tree) → snoc ks t ≡ chain ks (cons t nil)
chain-one nil t = refl
chain-one (cons k ks) t = ap (cons k) (chain-one ks t)

pub chain_snoc : (ks : Trees) (t : Tree) (ts : Trees) → chain (snoc ks t) ts ≡ chain ks (cons t ts)
chain_snoc ks t ts = ap (λ (l : Trees). chain l ts) (chain-one ks t) ∙ chain-chain ks (cons t nil) ts
