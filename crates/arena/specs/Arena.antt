-- Document 01, "The arena", 27: what it means that words and a text start with the arena of a tree.
use Rattle.std.specs.Prelude.{◌≡◌, List, ℕ, ◌*◌, ◌≤◌, length, take}
use Rattle.arena.specs.Tree.{Tree, nodes, text, most_nodes, most_text, Sound}
use Rattle.arena.specs.Layout.{stride, words}

-- one tree at the front of both, within the limits; what lies behind it is no part of it
pub record Arena (ws ts : List ℕ) (t : Tree) : Type 0 where
  pub few : nodes t ≤ most_nodes
  pub short : length (text t) ≤ most_text
  pub sound : Sound t
  pub laid : take (nodes t * stride) ws ≡ words t 0 0
  pub written : take (length (text t)) ts ≡ text t
