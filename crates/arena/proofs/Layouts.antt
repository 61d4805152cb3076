-- A tree stands at a node where its words and its text lie there, and only there.
-- Assumes nothing.
use mathlib.Core.Path.{◌≡◌, refl, sym, ap, ap₂, ◌∙◌, subst}
use mathlib.Core.Bool.{true}
use mathlib.Core.List.{List, [], ◌++◌}
use Prim.Native.Nat.{ℕ, suc, ◌+◌, ◌*◌, ◌/◌, ◌%◌, ◌^◌, ◌≤◌, ◌<◌}
use native.Mathlib.Omega.{arith}
use lib.ListN.{length, take, drop, length-append}
use lib.Seq.{drop-drop}
use Rattle.arena.specs.declared.node.Node.{Node}
use Rattle.arena.specs.declared.node.Node.TheVariants.{BitVec, Numeral, String, Symbol, App}
use Rattle.arena.specs.Tree.{Tree, Trees, bit_vec, numeral, string, symbol, app, nil, cons, count, nodes, nodes_of, text, texts}
use Rattle.arena.specs.Layout.{stride, words, words_of, app_words}
use Rattle.arena.specs.Node.{node_at, after_at}
use Rattle.arena.specs.Text.{text_at}
use Rattle.arena.specs.Stands.{Atom, TreeStands, StandAll}
use Rattle.arena.proofs.Prefixes.{Starts, starts_first, starts-others, starts-both}
use Rattle.arena.proofs.Views.{there, laid, length-laid, node-laid, laid-node, after-of}

-- a tree has as many words as its nodes ask
mutual
  pub length-words : (t : Tree) (i x : ℕ) → length (words t i x) ≡ nodes t * stride
  length-words (bit_vec w n) i x = refl
  length-words (numeral n) i x = refl
  length-words (string s) i x = refl
  length-words (symbol s) i x = refl
  length-words (app us) i x = let e = length-words-of us (i + 1) x in omega arith

  pub length-words-of : (us : Trees) (i x : ℕ) → length (words_of us i x) ≡ nodes_of us * stride
  length-words-of nil i x = refl
  length-words-of (cons t us) i x =
      let e = length-words t i x in
      let f = length-words-of us (i + nodes t) (x + length (text t)) in
      omega (arith, length-append (words t i x) (words_of us (i + nodes t) (x + length (text t))))

-- a tree has a node at least
pub nodes-some : (t : Tree) → 0 < nodes t
nodes-some (bit_vec w n) = omega arith
nodes-some (numeral n) = omega arith
nodes-some (string s) = omega arith
nodes-some (symbol s) = omega arith
nodes-some (app us) = omega arith

-- words w and text s of n nodes lie from node i and text offset x to node j and text offset y
pub record Lies (w s : List ℕ) (n : ℕ) (ws ts : List ℕ) (i j x y : ℕ) : Type 0 where
  pub laid : Starts w (drop (i * stride) ws)
  pub written : Starts s (drop x ts)
  pub next : j ≡ i + n
  pub rest : y ≡ x + length s

-- one after the other
module _ (w v s r : List ℕ) (n m : ℕ) (ws ts : List ℕ) (i x : ℕ) (size : length w ≡ n * stride) where
  words-others : drop (length w) (drop (i * stride) ws) ≡ drop ((i + n) * stride) ws
  words-others =
      let e : i * stride + length w ≡ (i + n) * stride = omega arith in
      drop-drop (length w) (i * stride) ws ∙ ap (λ (p : ℕ). drop p ws) e

  text-others : drop (length s) (drop x ts) ≡ drop (x + length s) ts
  text-others = drop-drop (length s) x ts

  module _ (j y : ℕ) where
    lies_first : Lies (w ++ v) (s ++ r) (n + m) ws ts i j x y → Lies w s n ws ts i (i + n) x (x + length s)
    lies_first h = record {
      laid = starts_first w v _ h.laid;
      written = starts_first s r _ h.written;
      next = refl;
      rest = refl;
    }

    lies_others : Lies (w ++ v) (s ++ r) (n + m) ws ts i j x y → Lies v r m ws ts (i + n) j (x + length s) y
    lies_others h =
        let e = h.next in
        let f = h.rest in
        record {
          laid = subst (Starts v) words-others (starts-others w v _ h.laid);
          written = subst (Starts r) text-others (starts-others s r _ h.written);
          next = omega arith;
          rest = omega (arith, length-append s r);
        }

    lies_both : (k z : ℕ) → Lies w s n ws ts i k x z → Lies v r m ws ts k j z y → Lies (w ++ v) (s ++ r) (n + m) ws ts i j x y
    lies_both k z h g =
        let e = h.next in
        let f = h.rest in
        let e' = g.next in
        let f' = g.rest in
        record {
          laid = starts-both w v _ h.laid (subst (Starts v) (ap (λ (p : ℕ). drop (p * stride) ws) e ∙ sym words-others) g.laid);
          written = starts-both s r _ h.written (subst (Starts r) (ap (λ (p : ℕ). drop p ts) f ∙ sym text-others) g.written);
          next = omega arith;
          rest = omega (arith, length-append s r);
        }

-- one node
module _ (node : Node) (t : there node ≡ true) (s ws ts : List ℕ) (i j x y : ℕ) where
  lies_here : Lies (laid node) s 1 ws ts i j x y → node_at ws i ≡ node
  lies_here h = node-laid ws i node t (subst (λ (n : ℕ). take n (drop (i * stride) ws) ≡ laid node) (length-laid node t) h.laid)

  here_lies : node_at ws i ≡ node → text_at ts x (length s) ≡ s → j ≡ i + 1 → y ≡ x + length s → Lies (laid node) s 1 ws ts i j x y
  here_lies e w n r = record {
    laid = subst (λ (n : ℕ). take n (drop (i * stride) ws) ≡ laid node) (sym (length-laid node t)) (laid-node ws i node t e);
    written = w;
    next = n;
    rest = r;
  }

  lies_atom : Lies (laid node) s 1 ws ts i j x y → y ≤ length ts → Atom node s ws ts i j x y
  lies_atom h m = record { here = lies_here h; written = h.written; next = h.next; rest = h.rest; within = m }

  atom_lies : Atom node s ws ts i j x y → Lies (laid node) s 1 ws ts i j x y
  atom_lies a = here_lies a.here a.written a.next a.rest

abbrev pub Lays : Tree → List ℕ → List ℕ → ℕ → ℕ → ℕ → ℕ → Type 0
Lays t ws ts i j x y = Lies (words t i x) (text t) (nodes t) ws ts i j x y

abbrev pub LayAll : Trees → List ℕ → List ℕ → ℕ → ℕ → ℕ → ℕ → Type 0
LayAll us ws ts i j x y = Lies (words_of us i x) (texts us) (nodes_of us) ws ts i j x y

-- an application: its own words, and those of its children
module _ (us : Trees) (ws ts : List ℕ) (i j x y : ℕ) where
  abbrev head : List ℕ
  head = app_words (count us) (i + suc (nodes_of us))

  more : suc (nodes_of us) ≡ 1 + nodes_of us
  more = omega arith

  same-offset : x + 0 ≡ x
  same-offset = omega arith

  parted : Lays (app us) ws ts i j x y → Lies (head ++ words_of us (i + 1) x) (texts us) (1 + nodes_of us) ws ts i j x y
  parted h = subst (λ (n : ℕ). Lies (head ++ words_of us (i + 1) x) (texts us) n ws ts i j x y) more h

  app-here : Lays (app us) ws ts i j x y → node_at ws i ≡ App (count us) j
  app-here h =
      let f = lies_first head (words_of us (i + 1) x) [] (texts us) 1 (nodes_of us) ws ts i x refl j y (parted h) in
      lies_here (App (count us) (i + suc (nodes_of us))) refl [] ws ts i (i + 1) x (x + 0) f ∙ ap (App (count us)) (sym h.next)

  app-children : Lays (app us) ws ts i j x y → LayAll us ws ts (i + 1) j x y
  app-children h =
      subst (λ (z : ℕ). Lies (words_of us (i + 1) x) (texts us) (nodes_of us) ws ts (i + 1) j z y) same-offset
      (lies_others head (words_of us (i + 1) x) [] (texts us) 1 (nodes_of us) ws ts i x refl j y (parted h))

  app_lays : node_at ws i ≡ App (count us) j → LayAll us ws ts (i + 1) j x y → Lays (app us) ws ts i j x y
  app_lays e h =
      let k = h.next in
      let end : j ≡ i + suc (nodes_of us) = omega arith in
      let f =
      here_lies (App (count us) (i + suc (nodes_of us))) refl [] ws ts i (i + 1) x x (e ∙ ap (App (count us)) end) refl refl (sym same-offset) in
      subst (λ (n : ℕ). Lies (head ++ words_of us (i + 1) x) (texts us) n ws ts i j x y) (sym more)
      (lies_both head (words_of us (i + 1) x) [] (texts us) 1 (nodes_of us) ws ts i x refl j y (i + 1) x f h)

-- the layout, seen node by node; the text lies within the bytes, where an empty one might not
module _ (ws ts : List ℕ) where
  mutual
    pub lays_stands : (t : Tree) (i j x y : ℕ) → Lays t ws ts i j x y → y ≤ length ts → TreeStands t ws ts i j x y
    lays_stands (bit_vec w n) i j x y h m = lies_atom (BitVec w (n % 2 ^ 64) (n / 2 ^ 64)) refl [] ws ts i j x y h m
    lays_stands (numeral n) i j x y h m = lies_atom (Numeral (n % 2 ^ 64) (n / 2 ^ 64)) refl [] ws ts i j x y h m
    lays_stands (string s) i j x y h m = lies_atom (String (length s) x) refl s ws ts i j x y h m
    lays_stands (symbol s) i j x y h m = lies_atom (Symbol (length s) x) refl s ws ts i j x y h m
    lays_stands (app us) i j x y h m = record {
      here = app-here us ws ts i j x y h;
      children = lay-stand us (i + 1) j x y (app-children us ws ts i j x y h) m;
    }

    pub lay-stand : (us : Trees) (i j x y : ℕ) → LayAll us ws ts i j x y → y ≤ length ts → StandAll us ws ts i j x y
    lay-stand nil i j x y h m = let e = h.next in let f = h.rest in record { next = omega arith; rest = omega arith }
    lay-stand (cons t us) i j x y h m =
        let others = words_of us (i + nodes t) (x + length (text t)) in
        let size = length-words t i x in
        let g = lies_others (words t i x) others (text t) (texts us) (nodes t) (nodes_of us) ws ts i x size j y h in
        let r = g.rest in
        record {
          mid = i + nodes t;
          off = x + length (text t);
          first =
              lays_stands t i (i + nodes t) x (x + length (text t))
              (lies_first (words t i x) others (text t) (texts us) (nodes t) (nodes_of us) ws ts i x size j y h) (omega arith);
          others = lay-stand us (i + nodes t) j (x + length (text t)) y g m;
        }

  mutual
    pub stands_lays : (t : Tree) (i j x y : ℕ) → TreeStands t ws ts i j x y → Lays t ws ts i j x y
    stands_lays (bit_vec w n) i j x y s = atom_lies (BitVec w (n % 2 ^ 64) (n / 2 ^ 64)) refl [] ws ts i j x y s
    stands_lays (numeral n) i j x y s = atom_lies (Numeral (n % 2 ^ 64) (n / 2 ^ 64)) refl [] ws ts i j x y s
    stands_lays (string s) i j x y h = atom_lies (String (length s) x) refl s ws ts i j x y h
    stands_lays (symbol s) i j x y h = atom_lies (Symbol (length s) x) refl s ws ts i j x y h
    stands_lays (app us) i j x y s = app_lays us ws ts i j x y s.here (stand-lay us (i + 1) j x y s.children)

    pub stand-lay : (us : Trees) (i j x y : ℕ) → StandAll us ws ts i j x y → LayAll us ws ts i j x y
    stand-lay nil i j x y s =
        let e = s.next in
        let f = s.rest in
        record { laid = refl; written = refl; next = omega arith; rest = omega arith }
    stand-lay (cons t us) i j x y s =
        let f = stands_lays t i s.mid x s.off s.first in
        let g = stand-lay us s.mid j s.off y s.others in
        lies_both (words t i x) (words_of us (i + nodes t) (x + length (text t))) (text t) (texts us) (nodes t) (nodes_of us) ws ts i x
        (length-words t i x) j y s.mid s.off f
        (subst (λ (w : List ℕ). Lies w (texts us) (nodes_of us) ws ts s.mid j s.off y) (ap₂ (λ (k z : ℕ). words_of us k z) f.next f.rest) g)

  pub stands-longer : (t : Tree) (i j x y : ℕ) → TreeStands t ws ts i j x y → i < j
  stands-longer t i j x y s = let e = (stands_lays t i j x y s).next in let n = nodes-some t in omega arith

  pub stand-longer : (us : Trees) (i j x y : ℕ) → StandAll us ws ts i j x y → i ≤ j
  stand-longer us i j x y s = let e = (stand-lay us i j x y s).next in omega arith

  -- the view finds the next node
  pub stands_after : (t : Tree) (i j x y : ℕ) → TreeStands t ws ts i j x y → j ≡ after_at ws i
  stands_after (bit_vec w n) i j x y s = s.next ∙ after-of ws i s.here
  stands_after (numeral n) i j x y s = s.next ∙ after-of ws i s.here
  stands_after (string s) i j x y h = h.next ∙ after-of ws i h.here
  stands_after (symbol s) i j x y h = h.next ∙ after-of ws i h.here
  stands_after (app us) i j x y s = after-of ws i s.here
