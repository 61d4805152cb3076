-- Where every node up to the root's end is right, a tree is built, from its last node to its first.
-- Assumes nothing.
use mathlib.Core.Path.{◌≡◌, refl, sym, ap, ap₂, ◌∙◌, subst}
use mathlib.Core.List.{List, []}
use Prim.Native.Nat.{ℕ, zero, suc, ◌+◌, ◌*◌, ◌/◌, ◌%◌, ◌^◌, ◌≤◌, ◌<◌}
use native.Mathlib.Omega.{arith}
use lib.ListN.{length, length-take, length-drop}
use Rattle.words.proofs.Numbers.{low_word, high_word, value-fits}
use Rattle.arena.specs.declared.node.Node.{Node}
use Rattle.arena.specs.declared.node.Node.TheVariants.{BitVec, Numeral, String, Symbol, App, NoNode}
use Rattle.arena.specs.Tree.{Tree, Trees, bit_vec, numeral, string, symbol, app, nil, cons, count, Sound, SoundAll}
use Rattle.arena.specs.Node.{node_at, after_at, after_of}
use Rattle.arena.specs.Text.{text_at}
use Rattle.arena.specs.Stands.{Atom, TreeStands, StandAll}
use Rattle.arena.proofs.Views.{after-of}
use Rattle.arena_check.specs.Right.{Right, Written, Chain, takes}
use Rattle.arena_check.proofs.Offsets.{offset, offset-behind, offset-within, RightTo}

-- a number is made of its words
number-node : (kind : ℕ → ℕ → Node) (l h : ℕ) → l < 2 ^ 64 → kind l h ≡ kind ((l + h * 2 ^ 64) % 2 ^ 64) ((l + h * 2 ^ 64) / 2 ^ 64)
number-node kind l h f = ap₂ kind (low_word (l + h * 2 ^ 64) l h f refl) (high_word (l + h * 2 ^ 64) l h f refl)

module _ (ws ts : List ℕ) where
  -- a tree stands at node k with its text behind the text before it
  pub record Built (k : ℕ) : Type 0 where
    pub tree : Tree
    pub stand : TreeStands tree ws ts k (after_at ws k) (offset ws k) (offset ws (after_at ws k))
    pub sound : Sound tree

  record BuiltAll (c p e : ℕ) : Type 0 where
    trees : Trees
    many : count trees ≡ c
    stand : StandAll trees ws ts p e (offset ws p) (offset ws e)
    sound : SoundAll trees

  -- the children that a chain links
  linked : (c p e : ℕ) → Chain c ws p e → ((k : ℕ) → p ≤ k → k < e → after_at ws k ≤ e → Built k) → BuiltAll c p e
  linked zero p e h at =
      record { trees = nil; many = refl; stand = record { next = sym h; rest = ap (offset ws) (sym h) }; sound = tt }
  linked (suc c) p e h at =
      let g = h.onward in
      let k = h.within in
      let t = at p (omega arith) (omega arith) k in
      let us = linked c (after_at ws p) e h.others (λ m a b. at m (omega arith) b) in
      record {
        trees = cons t.tree us.trees;
        many = ap suc us.many;
        stand = record { mid = after_at ws p; off = offset ws (after_at ws p); first = t.stand; others = us.stand };
        sound = (t.sound, us.sound);
      }

  -- a node without children
  module _ (k : ℕ) {n : Node} (q : node_at ws k ≡ n) (alone : after_of n k ≡ k + 1) where
    behind : after_at ws k ≡ k + 1
    behind = sym (after-of ws k q) ∙ alone

    atom_built : (node : Node) (s : List ℕ) → n ≡ node → text_at ts (offset ws k) (length s) ≡ s → takes n ≡ length s
        → offset ws (after_at ws k) ≤ length ts → Atom node s ws ts k (after_at ws k) (offset ws k) (offset ws (after_at ws k))
    atom_built node s e w l m = record {
      here = q ∙ e;
      written = w;
      next = behind;
      rest = ap (offset ws) behind ∙ offset-behind ws k q ∙ ap (λ (n : ℕ). offset ws k + n) l;
      within = m;
    }

  -- a node with a text: String or Symbol
  module _ (kind : ℕ → ℕ → Node) (k size from : ℕ) (q : node_at ws k ≡ kind size from) (h : Written ts size from (offset ws k)) where
    abbrev bytes : List ℕ
    bytes = text_at ts (offset ws k) size

    size_of : length bytes ≡ size
    size_of = let w = h.within in simp (length-take, length-drop) (omega arith)

    text_built : after_of (kind size from) k ≡ k + 1 → takes (kind size from) ≡ size → offset ws (after_at ws k) ≤ length ts
        → Atom (kind (length bytes) (offset ws k)) bytes ws ts k (after_at ws k) (offset ws k) (offset ws (after_at ws k))
    text_built alone taken m =
        atom_built k q alone _ bytes (ap₂ kind (sym size_of) h.gapless) (ap (text_at ts (offset ws k)) size_of) (taken ∙ sym size_of) m

  node_built : (k : ℕ) (n : Node) → node_at ws k ≡ n → Right n ws ts k (offset ws k) → offset ws (after_at ws k) ≤ length ts
      → ((m : ℕ) → k < m → m < after_at ws k → after_at ws m ≤ after_at ws k → Built m) → Built k
  node_built k (BitVec w l h) q r m at = record {
    tree = bit_vec w (l + h * 2 ^ 64);
    stand = atom_built k q refl _ [] (number-node (BitVec w) l h r.number.low_fits) refl refl m;
    sound = r.sound;
  }
  node_built k (Numeral l h) q r m at = record {
    tree = numeral (l + h * 2 ^ 64);
    stand = atom_built k q refl _ [] (number-node Numeral l h r.low_fits) refl refl m;
    sound = value-fits l h r.low_fits r.high_fits;
  }
  node_built k (String size from) q r m at = record {
    tree = string (text_at ts (offset ws k) size);
    stand = text_built String k size from q r refl refl m;
    sound = r.encoded;
  }
  node_built k (Symbol size from) q r m at = record {
    tree = symbol (text_at ts (offset ws k) size);
    stand = text_built Symbol k size from q r refl refl m;
    sound = r.encoded;
  }
  node_built k (App c e) q r m at =
      let a : e ≡ after_at ws k = after-of ws k q in
      let o = offset-behind ws k q in
      let same : offset ws (k + 1) ≡ offset ws k = omega arith in
      let us = linked c (k + 1) (after_at ws k) (subst (Chain c ws (k + 1)) a r) (λ n x y z. at n (omega arith) y z) in
      record {
        tree = app us.trees;
        stand = record {
          here = q ∙ ap₂ App (sym us.many) a;
          children = subst (λ (x : ℕ). StandAll us.trees ws ts (k + 1) (after_at ws k) x (offset ws (after_at ws k))) same us.stand;
        };
        sound = us.sound;
      }
  node_built k NoNode q r m at = absurd r

  -- from the last node to the first
  build : (f k e : ℕ) → e ≤ k + f → RightTo ws ts e → k < e → after_at ws k ≤ e → Built k
  build zero k e h r l a = absurd (omega arith)
  build (suc f) k e h r l a =
      node_built k (node_at ws k) refl (r k l) (offset-within ws ts (after_at ws k) (λ m x. r m (omega arith)))
      (λ m x y z. build f m e (omega arith) r (omega arith) (omega arith))

  pub all_built : 0 < after_at ws 0 → RightTo ws ts (after_at ws 0) → Built 0
  all_built l r = build (after_at ws 0) 0 (after_at ws 0) (omega arith) r l (omega arith)
