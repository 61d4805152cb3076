-- Demand 3, "compared without bars": when two names are one, and when a name stands in a tree.
use Rattle.std.specs.Prelude.{Bool, false, cond, ◌||◌, List, [], ◌∷◌, ℕ, eqb}
use Rattle.arena.specs.Text.{same_text}
use Rattle.arena.specs.Tree.{Tree, Trees, bit_vec, numeral, string, symbol, app, nil, cons}
use Rattle.shapes.specs.Shape.{is, on_symbol}

-- a name without its bars, every one of them
unfoldable pub unbarred : List ℕ → List ℕ
unbarred [] = []
unbarred (b ∷ bs) = cond (eqb b 124) (unbarred bs) (b ∷ unbarred bs)

abbrev pub same_name : List ℕ → List ℕ → Bool
same_name a b = same_text (unbarred a) (unbarred b)

-- (_ ..), in which the words are indices: `(_ bv5 8)` does not mention `bv5`
abbrev pub indexes : Trees → Bool
indexes nil = false
indexes (cons h us) = on_symbol h false (λ s. is s "_")

-- the name stands in the tree
unfoldable mutual
  pub mentions : Tree → List ℕ → Bool
  mentions (bit_vec w n) x = false
  mentions (numeral n) x = false
  mentions (string s) x = false
  mentions (symbol s) x = same_name s x
  mentions (app us) x = cond (indexes us) false (mentions_any us x)

  pub mentions_any : Trees → List ℕ → Bool
  mentions_any nil x = false
  mentions_any (cons u us) x = mentions u x || mentions_any us x
