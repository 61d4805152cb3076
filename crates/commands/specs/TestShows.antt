-- Document 01, "The model walk": what the tests of a body and the key of a test, found in the arena, say of the tree that stands there.
use Rattle.std.specs.Prelude.{◌≡◌, Bool, List, ℕ, None, Option, Some}
use Rattle.arena.specs.Tree.{Tree, Trees}
use Rattle.shapes.specs.Shows.{Standing, StandingAll, Reads}
use Rattle.commands.specs.Command.{tests, is_argument, key}
use Rattle.commands.specs.declared.test.Disjunction.{Disjunction}

abbrev pub TestsShow : List ℕ → List ℕ → Option Disjunction → Option Trees → Type 0
TestsShow ws ts (Some it) o = (us : Trees) × (o ≡ Some us) × StandingAll us ws ts it.first it.count
TestsShow ws ts None o = o ≡ None

abbrev pub TestsAt : List ℕ → List ℕ → ℕ → Option Disjunction → Type 0
TestsAt ws ts i r = (t : Tree) → Standing t ws ts i → TestsShow ws ts r (tests t)

abbrev pub KeyShows : List ℕ → List ℕ → Option ℕ → Option Tree → Type 0
KeyShows ws ts (Some node) o = (k : Tree) × (o ≡ Some k) × Standing k ws ts node
KeyShows ws ts None o = o ≡ None

-- of the argument whose text is told
abbrev pub KeyAt : List ℕ → List ℕ → ℕ → ℕ → ℕ → Option ℕ → Type 0
KeyAt ws ts i offset size r = (x : List ℕ) (t : Tree) → Reads x ts offset size → Standing t ws ts i → KeyShows ws ts r (key x t)

abbrev pub ArgumentIs : List ℕ → List ℕ → ℕ → ℕ → ℕ → Bool → Type 0
ArgumentIs ws ts i offset size r = (x : List ℕ) (t : Tree) → Reads x ts offset size → Standing t ws ts i → r ≡ is_argument x t
