-- Document 02, R-2, `=` of sets by their members: where the `set.singleton`s of a set stand, one for each member as it was written, and what is noted of them.
use Rattle.std.specs.Prelude.{Bool, cond, List, [], ◌∷◌, ◌++◌, map, ℕ, zero, suc, None, Option, Some}
use Rattle.arena.specs.Tree.{Tree, bit_vec, numeral, string, symbol, app}
use Rattle.tables.specs.Sort.{Tables}
use Rattle.shapes.specs.Shape.{Shape, uncovered, as_none, as_some, some_of, as_empty, singleton, union, extension, indexed, made, other, unary, binary, ite, shape}
use Rattle.marks.specs.Mark.{marked}
use Rattle.settled.specs.Settled.{decision}
use Rattle.settled.specs.Taken.{argument}

module _ (T : Tables) (ws : List ℕ) where
  abbrev pub by_branch : (Tree → ℕ → List ℕ) → ℕ → Tree → Tree → Option Bool → List ℕ
  by_branch below i v w None = []
  by_branch below i v w (Some b) = below (cond b v w) (cond b (argument ws i 1) (argument ws i 2))

  abbrev pub singles_of : (Tree → ℕ → List ℕ) → ℕ → Shape → List ℕ
  singles_of below i uncovered = []
  singles_of below i (as_none t) = []
  singles_of below i (as_some t v) = []
  singles_of below i (some_of v) = []
  singles_of below i (as_empty t) = []
  singles_of below i (singleton v) = i ∷ []
  singles_of below i (union v w) = below v (argument ws i 0) ++ below w (argument ws i 1)
  singles_of below i (extension x n) = []
  singles_of below i (indexed digits w) = []
  singles_of below i (made f us) = []
  singles_of below i other = []
  singles_of below i (unary op v) = []
  singles_of below i (binary op v w) = []
  singles_of below i (ite c v w) = by_branch below i v w (decision T (ite c v w))

  -- so many levels down
  unfoldable pub singles : ℕ → Tree → ℕ → List ℕ
  singles zero t i = []
  singles (suc a) (bit_vec w n) i = []
  singles (suc a) (numeral n) i = []
  singles (suc a) (string s) i = []
  singles (suc a) (symbol s) i = []
  singles (suc a) (app us) i = singles_of (λ t j. singles a t j) i (shape us)

-- what is noted of each
abbrev pub noted : List ℕ → List ℕ → List Bool
noted ms ns = map (marked ms) ns
