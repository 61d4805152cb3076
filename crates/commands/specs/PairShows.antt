-- Document 02, R-1, and document 01, "The model walk": what a pair found in the arena says of the tree that stands there.
use Rattle.std.specs.Prelude.{◌≡◌, List, ℕ, None, Option, Some}
use Rattle.arena.specs.Tree.{Tree, nil, cons}
use Rattle.shapes.specs.Shows.{Standing, StandingAll, Reads}
use Rattle.commands.specs.Pair.{Pair, pair_of, two, pair}
use Rattle.commands.specs.declared.pair.NamedPair.{NamedPair}

abbrev pub PairShows : List ℕ → List ℕ → Option NamedPair → Option Pair → Type 0
PairShows ws ts (Some it) p = (name : List ℕ) × (t : Tree) × (p ≡ Some (pair_of name t)) × Reads name ts it.offset it.size × Standing t ws ts it.second
PairShows ws ts None p = p ≡ None

abbrev pub PairAt : List ℕ → ℕ → Option NamedPair → Type 0
PairAt ws i r = (ts : List ℕ) (t : Tree) → Standing t ws ts i → PairShows ws ts r (pair t)

-- the same where its two parts stand from the node on
abbrev pub TwoAt : List ℕ → ℕ → Option NamedPair → Type 0
TwoAt ws first r = (ts : List ℕ) (a t : Tree) → StandingAll (cons a (cons t nil)) ws ts first 2 → PairShows ws ts r (two (cons a (cons t nil)))

-- the node of its second
abbrev pub SecondAt : ℕ → Option NamedPair → Type 0
SecondAt i (Some it) = it.second ≡ i
SecondAt i None = Unit {0}
