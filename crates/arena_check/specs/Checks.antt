-- Document 01, "The arena", 27: given exactly where the words and the text do not start with a tree's arena.
use Rattle.std.specs.Prelude.{◌≡◌, List, ℕ, length, Err, Ok, Result}
use Rattle.refusals.specs.declared.Refusal.{Refusal}
use Rattle.refusals.specs.declared.Refusal.TheVariants.{BadArena}
use Rattle.arena.specs.Tree.{Tree, nodes, text}
use Rattle.arena.specs.Arena.{Arena}
use Rattle.arena_check.specs.declared.Checked.{Checked}

-- a tree's arena is found with its needs, and what is found is a tree's; 27 is given where there is none, and only there
pub record Checks (ws ts : List ℕ) (r : Result Checked Refusal) : Type 0 where
  pub found : (t : Tree) → Arena ws ts t → r ≡ Ok (record { nodes = nodes t; text = length (text t) })
  pub none : ((t : Tree) → Arena ws ts t → ⊥) → r ≡ Err BadArena
  pub tree : (n k : ℕ) → r ≡ Ok (record { nodes = n; text = k }) → (t : Tree) × Arena ws ts t × (n ≡ nodes t) × (k ≡ length (text t))
  pub refused : (e : Refusal) → r ≡ Err e → (t : Tree) → Arena ws ts t → ⊥
