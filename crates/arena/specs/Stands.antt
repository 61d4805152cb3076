-- Document 01, "The arena": that a tree stands at a node, said through the view of a node alone.
use Rattle.std.specs.Prelude.{◌≡◌, List, [], ℕ, ◌+◌, ◌/◌, ◌%◌, ◌^◌, ◌≤◌, length}
use Rattle.arena.specs.declared.node.Node.{Node}
use Rattle.arena.specs.declared.node.Node.TheVariants.{BitVec, Numeral, String, Symbol, App}
use Rattle.arena.specs.Node.{node_at}
use Rattle.arena.specs.Text.{text_at}
use Rattle.arena.specs.Tree.{Tree, Trees, bit_vec, numeral, string, symbol, app, nil, cons, count}

-- node i is the one given, with the text s from x on; the next node is j and the next text offset y
pub record Atom (node : Node) (s ws ts : List ℕ) (i j x y : ℕ) : Type 0 where
  pub here : node_at ws i ≡ node
  pub written : text_at ts x (length s) ≡ s
  pub next : j ≡ i + 1
  pub rest : y ≡ x + length s
  pub within : y ≤ length ts

-- node i is an application that ends where its children do
pub record Applied (many : ℕ) (ws : List ℕ) (i j : ℕ) (Children : Type 0) : Type 0 where
  pub here : node_at ws i ≡ App many j
  pub children : Children

pub record Done (i j x y : ℕ) : Type 0 where
  pub next : j ≡ i
  pub rest : y ≡ x

-- the others begin at the node and the text offset where the first one ends
pub record Then (First Others : ℕ → ℕ → Type 0) : Type 0 where
  pub mid : ℕ
  pub off : ℕ
  pub first : First mid off
  pub others : Others mid off

-- the tree stands at node i with its text from x on; the next node is j and the next text offset y
abbrev mutual
  pub TreeStands : Tree → List ℕ → List ℕ → ℕ → ℕ → ℕ → ℕ → Type 0
  TreeStands (bit_vec w n) ws ts i j x y = Atom (BitVec w (n % 2 ^ 64) (n / 2 ^ 64)) [] ws ts i j x y
  TreeStands (numeral n) ws ts i j x y = Atom (Numeral (n % 2 ^ 64) (n / 2 ^ 64)) [] ws ts i j x y
  TreeStands (string s) ws ts i j x y = Atom (String (length s) x) s ws ts i j x y
  TreeStands (symbol s) ws ts i j x y = Atom (Symbol (length s) x) s ws ts i j x y
  TreeStands (app us) ws ts i j x y = Applied (count us) ws i j (StandAll us ws ts (i + 1) j x y)

  pub StandAll : Trees → List ℕ → List ℕ → ℕ → ℕ → ℕ → ℕ → Type 0
  StandAll nil ws ts i j x y = Done i j x y
  StandAll (cons t us) ws ts i j x y = Then (λ m z. TreeStands t ws ts i m x z) (λ m z. StandAll us ws ts m j z y)
