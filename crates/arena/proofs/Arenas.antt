-- An arena is a tree that stands at the front, and no words and text are the arena of two trees.
-- Assumes nothing.
use mathlib.Core.Path.{◌≡◌, refl, sym, ap, ap₂, ◌∙◌, subst}
use mathlib.Core.List.{List}
use Prim.Native.Nat.{ℕ, ◌+◌, ◌*◌, ◌^◌, ◌≤◌}
use native.Mathlib.Omega.{arith}
use lib.ListN.{length, take, length-take}
use Rattle.words.proofs.Numbers.{value-pair}
use Rattle.arena.specs.declared.node.Node.{Node}
use Rattle.arena.specs.declared.node.Node.TheVariants.{BitVec, Numeral, String, Symbol, App, NoNode}
use Rattle.arena.specs.Tree.{Tree, Trees, bit_vec, numeral, string, symbol, app, nil, cons, count, nodes, text, most_nodes, most_text, Sound}
use Rattle.arena.specs.Arena.{Arena}
use Rattle.arena.specs.Node.{node_at}
use Rattle.arena.specs.Text.{text_at}
use Rattle.arena.specs.Stands.{TreeStands, StandAll}
use Rattle.arena.proofs.Layouts.{length-words, lays_stands, stands_lays, stands_after}

module _ (ws ts : List ℕ) (t : Tree) where
  text-within : Arena ws ts t → length (text t) ≤ length ts
  text-within a = let e = simp length-take at (ap (λ (l : List ℕ). length l) a.written) in omega arith

  pub arena-stands : Arena ws ts t → TreeStands t ws ts 0 (nodes t) 0 (length (text t))
  arena-stands a =
      lays_stands ws ts t 0 (nodes t) 0 (length (text t))
      (record {
        laid = ap (λ (n : ℕ). take n ws) (length-words t 0 0) ∙ a.laid;
        written = a.written;
        next = omega arith;
        rest = omega arith;
      })
      (text-within a)

  pub stands-arena : (j y : ℕ) → TreeStands t ws ts 0 j 0 y → j ≤ most_nodes → y ≤ most_text → Sound t → Arena ws ts t
  stands-arena j y s few short sound =
      let l = stands_lays ws ts t 0 j 0 y s in
      let e = l.next in
      let f = l.rest in
      record {
        few = omega arith;
        short = omega arith;
        sound = sound;
        laid = ap (λ (n : ℕ). take n ws) (sym (length-words t 0 0)) ∙ l.laid;
        written = l.written;
      }

-- the tree that a node shows: all of an atom, and of an application the root
abbrev pub root_of : List ℕ → Node → Tree
root_of ts (BitVec width low high) = bit_vec width (low + high * 2 ^ 64)
root_of ts (Numeral low high) = numeral (low + high * 2 ^ 64)
root_of ts (String size offset) = string (text_at ts offset size)
root_of ts (Symbol size offset) = symbol (text_at ts offset size)
root_of ts (App children end) = app nil
root_of ts NoNode = app nil

-- a tree apart, its root and its children, and put together
abbrev bare : Tree → Tree
bare (bit_vec w n) = bit_vec w n
bare (numeral n) = numeral n
bare (string s) = string s
bare (symbol s) = symbol s
bare (app us) = app nil

abbrev below : Tree → Trees
below (bit_vec w n) = nil
below (numeral n) = nil
below (string s) = nil
below (symbol s) = nil
below (app us) = us

abbrev filled : Tree → Trees → Tree
filled (bit_vec w n) us = bit_vec w n
filled (numeral n) us = numeral n
filled (string s) us = string s
filled (symbol s) us = symbol s
filled (app vs) us = app us

whole : (t : Tree) → filled (bare t) (below t) ≡ t
whole (bit_vec w n) = refl
whole (numeral n) = refl
whole (string s) = refl
whole (symbol s) = refl
whole (app us) = refl

module _ (ws ts : List ℕ) where
  root_of_lem : (t : Tree) (i j x y : ℕ) → TreeStands t ws ts i j x y → root_of ts (node_at ws i) ≡ bare t
  root_of_lem (bit_vec w n) i j x y s = ap (root_of ts) s.here ∙ ap (bit_vec w) (value-pair n)
  root_of_lem (numeral n) i j x y s = ap (root_of ts) s.here ∙ ap numeral (value-pair n)
  root_of_lem (string s) i j x y h = ap (root_of ts) h.here ∙ ap string h.written
  root_of_lem (symbol s) i j x y h = ap (root_of ts) h.here ∙ ap symbol h.written
  root_of_lem (app us) i j x y s = ap (root_of ts) s.here

  -- a tree that stands where t does has t's root, wherever their texts begin
  same_root : (t u : Tree) (i j k x y p q : ℕ) → TreeStands t ws ts i j x y → TreeStands u ws ts i k p q → filled (bare t) (below u) ≡ u
  same_root t u i j k x y p q s r =
      ap (λ (v : Tree). filled v (below u)) (sym (root_of_lem t i j x y s) ∙ root_of_lem u i k p q r) ∙ whole u

  mutual
    pub one-tree : (t u : Tree) (i j k x y p q : ℕ) → TreeStands t ws ts i j x y → TreeStands u ws ts i k p q → t ≡ u
    one-tree (bit_vec w n) u i j k x y p q s r = same_root (bit_vec w n) u i j k x y p q s r
    one-tree (numeral n) u i j k x y p q s r = same_root (numeral n) u i j k x y p q s r
    one-tree (string s) u i j k x y p q h r = same_root (string s) u i j k x y p q h r
    one-tree (symbol s) u i j k x y p q h r = same_root (symbol s) u i j k x y p q h r
    one-tree (app us) u i j k x y p q s r =
        let e : app (below u) ≡ u = same_root (app us) u i j k x y p q s r in
        let r' = subst (λ (v : Tree). TreeStands v ws ts i k p q) (sym e) r in
        let a = s.here in
        let b = r'.here in
        let c : count us ≡ count (below u) = cc in
        ap app (one_list us (below u) (i + 1) j k x y p q c s.children r'.children) ∙ e

    one_list : (us vs : Trees) (i j k x y p q : ℕ) → count us ≡ count vs → StandAll us ws ts i j x y → StandAll vs ws ts i k p q → us ≡ vs
    one_list nil nil i j k x y p q c s r = refl
    one_list nil (cons u vs) i j k x y p q c s r = absurd (omega arith)
    one_list (cons t us) nil i j k x y p q c s r = absurd (omega arith)
    one_list (cons t us) (cons u vs) i j k x y p q c s r =
        let e : t ≡ u = one-tree t u i s.mid r.mid x s.off p r.off s.first r.first in
        let m : r.mid ≡ s.mid =
        stands_after ws ts u i r.mid p r.off r.first ∙ sym (stands_after ws ts t i s.mid x s.off s.first) in
        let r' = subst (λ (n : ℕ). StandAll vs ws ts n k r.off q) m r.others in
        ap₂ cons e (one_list us vs s.mid j k s.off y r.off q (omega arith) s.others r')

-- words and a text start with the arena of one tree at most
pub one-arena : (ws ts : List ℕ) (t u : Tree) → Arena ws ts t → Arena ws ts u → t ≡ u
one-arena ws ts t u a b = one-tree ws ts t u 0 _ _ 0 _ 0 _ (arena-stands ws ts t a) (arena-stands ws ts u b)
