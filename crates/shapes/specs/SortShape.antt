-- Document 01, "Sorts and literals", written sorts, their words and counts matched and nothing read.
use Rattle.std.specs.Prelude.{◌≡◌, cond, ◌&&◌, List, ℕ, ◌+◌, ◌*◌, ◌^◌}
use Rattle.arena.specs.Tree.{Tree, Trees, nil, cons}
use Rattle.shapes.specs.declared.sort.SortFound.{SortFound}
use Rattle.shapes.specs.Shape.{is, on_symbol, on_numeral, on_app}
use Rattle.shapes.specs.Shows.{Standing, StandingAll, Reads}

pub data SortShape : Type 0 where
  word : List ℕ → SortShape
  width_of : ℕ → SortShape
  option_of : Tree → SortShape
  set_of : Tree → SortShape
  no_sort : SortShape

-- (Option T), (Set T)
abbrev pub sort_one : List ℕ → Tree → SortShape
sort_one f t = cond (is f "Option") (option_of t) (cond (is f "Set") (set_of t) no_sort)

-- (_ BitVec n)
abbrev pub sort_two : List ℕ → Tree → Tree → SortShape
sort_two f a b = on_symbol a no_sort (λ g. on_numeral b no_sort (λ n. cond (is f "_" && is g "BitVec") (width_of n) no_sort))

abbrev pub sort_applied : List ℕ → Trees → SortShape
sort_applied f nil = no_sort
sort_applied f (cons a nil) = sort_one f a
sort_applied f (cons a (cons b nil)) = sort_two f a b
sort_applied f (cons a (cons b (cons c us))) = no_sort

abbrev pub sort_list : Trees → SortShape
sort_list nil = no_sort
sort_list (cons h us) = on_symbol h no_sort (λ f. sort_applied f us)

unfoldable pub sort_shape : Tree → SortShape
sort_shape t = on_symbol t (on_app t no_sort sort_list) word

-- what is found in the arena, of the tree that stands there
abbrev pub SortShows : List ℕ → List ℕ → SortFound → SortShape → Type 0
SortShows ws ts (SortFound.Word offset size) s = (name : List ℕ) × (s ≡ word name) × Reads name ts offset size
SortShows ws ts (SortFound.Width low high) s = s ≡ width_of (low + high * 2 ^ 64)
SortShows ws ts (SortFound.OptionOf inner) s = (t : Tree) × (s ≡ option_of t) × Standing t ws ts inner
SortShows ws ts (SortFound.SetOf inner) s = (t : Tree) × (s ≡ set_of t) × Standing t ws ts inner
SortShows ws ts SortFound.NoSort s = s ≡ no_sort

abbrev pub SortShapeAt : List ℕ → List ℕ → ℕ → SortFound → Type 0
SortShapeAt ws ts i r = (t : Tree) → Standing t ws ts i → SortShows ws ts r (sort_shape t)

abbrev pub SortListAt : List ℕ → List ℕ → ℕ → ℕ → SortFound → Type 0
SortListAt ws ts i many r = (us : Trees) → StandingAll us ws ts i many → SortShows ws ts r (sort_list us)

abbrev pub SortOneAt : List ℕ → List ℕ → ℕ → ℕ → ℕ → SortFound → Type 0
SortOneAt ws ts offset size first r = (f : List ℕ) (a : Tree) → Reads f ts offset size → Standing a ws ts first → SortShows ws ts r (sort_one f a)

abbrev pub SortTwoAt : List ℕ → List ℕ → ℕ → ℕ → ℕ → SortFound → Type 0
SortTwoAt ws ts offset size first r =
    (f : List ℕ) (a b : Tree) → Reads f ts offset size → StandingAll (cons a (cons b nil)) ws ts first 2 → SortShows ws ts r (sort_two f a b)
