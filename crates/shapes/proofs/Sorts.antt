-- One law for each way out of the matching of a written sort.
-- Assumes nothing.
use Rattle.std.proofs.Common.{None, Option, Some}
use mathlib.Core.Path.{◌≡◌, refl, sym, ap, ◌∙◌, subst}
use mathlib.Core.Bool.{true, false}
use mathlib.Core.List.{List}
use Prim.Native.Nat.{ℕ, suc, ◌+◌, ◌*◌, ◌^◌}
use native.Mathlib.Omega.{arith}
use Rattle.ground.specs.Bytes.{bytes}
use Rattle.arena.specs.Node.{after_at}
use Rattle.arena.specs.Text.{text_is}
use Rattle.arena.specs.Tree.{Tree, Trees, numeral, symbol, nil, cons}
use Rattle.shapes.specs.declared.sort.SortFound.{SortFound}
use Rattle.shapes.specs.Shape.{on_app}
use Rattle.shapes.specs.Shows.{Standing, StandingAll, Reads, WordAt, IndexOf, PartsAt}
use Rattle.shapes.specs.SortShape.{SortShape, no_sort, sort_two, sort_applied, sort_list, sort_shape, SortShows, SortShapeAt, SortListAt, SortOneAt, SortTwoAt}
use Rattle.shapes.proofs.Stood.{first_of, others-of, second-of, said-so}
use Rattle.shapes.proofs.Seen.{seen-word}
use Rattle.shapes.proofs.Arms.{not-symbol, not-numeral, not-app}
use Rattle.shapes.specs.declared.look.Index.{Index}
use Rattle.shapes.specs.declared.look.Word.{Word}

module _ (ws ts : List ℕ) (offset size first : ℕ) where
  pub one_option : text_is ts offset size (bytes "Option") ≡ true → SortOneAt ws ts offset size first (SortFound.OptionOf first)
  one_option h f a r s = (a, rw (said-so ts offset size f r (bytes "Option") true h), s)

  pub one_set : text_is ts offset size (bytes "Option") ≡ false → text_is ts offset size (bytes "Set") ≡ true → SortOneAt ws ts offset size first (SortFound.SetOf first)
  one_set h k f a r s = (a, rw (said-so ts offset size f r (bytes "Option") false h, said-so ts offset size f r (bytes "Set") true k), s)

  pub one_none : text_is ts offset size (bytes "Option") ≡ false → text_is ts offset size (bytes "Set") ≡ false → SortOneAt ws ts offset size first SortFound.NoSort
  one_none h k f a r s = rw (said-so ts offset size f r (bytes "Option") false h, said-so ts offset size f r (bytes "Set") false k)

  pub two-word : (w : Option Word) → WordAt ws first w → w ≡ None → SortTwoAt ws ts offset size first SortFound.NoSort
  two-word w h e f a b r s =
      let n = subst (λ (x : Option Word). WordAt ws first x) e h in
      not-symbol a _ _ (n ts a (first_of ws ts a (cons b nil) first 2 s))

  module _ (w : Option Word) (off long : ℕ) (h : WordAt ws first w) (e : w ≡ Some (record { size = long; offset = off })) (second : ℕ) (here : second ≡ after_at ws first) where
    word : (a b : Tree) → StandingAll (cons a (cons b nil)) ws ts first 2 → (g : List ℕ) × (a ≡ symbol g) × Reads g ts off long
    word a b s = seen-word ws first w h ts long off e a (first_of ws ts a (cons b nil) first 2 s)

    pub two-index : (i : Option Index) → IndexOf ws second i → i ≡ None → SortTwoAt ws ts offset size first SortFound.NoSort
    two-index i k d f a b r s =
        let n = subst (λ (x : Option Index). IndexOf ws second x) d k in
        ap (λ (x : Tree). sort_two f x b) (word a b s).1 ∙ not-numeral b _ _ (n ts b (second-of ws ts first second here a b s))

    module _ (i : Option Index) (low high : ℕ) (k : IndexOf ws second i) (d : i ≡ Some (record { low = low; high = high })) where
      as_two : (f : List ℕ) (a b : Tree) (s : StandingAll (cons a (cons b nil)) ws ts first 2) → sort_two f a b ≡ sort_two f (symbol (word a b s).0) (numeral (low + high * 2 ^ 64))
      as_two f a b s =
          ap (λ (x : Tree). sort_two f x b) (word a b s).1
          ∙ ap (λ (x : Tree). sort_two f (symbol (word a b s).0) x) (subst (λ (x : Option Index). IndexOf ws second x) d k ts b (second-of ws ts first second here a b s))

      pub two-other : text_is ts offset size (bytes "_") ≡ false → SortTwoAt ws ts offset size first SortFound.NoSort
      two-other n f a b r s = as_two f a b s ∙ rw (said-so ts offset size f r (bytes "_") false n)

      pub two-unnamed : text_is ts offset size (bytes "_") ≡ true → text_is ts off long (bytes "BitVec") ≡ false → SortTwoAt ws ts offset size first SortFound.NoSort
      two-unnamed n m f a b r s =
          as_two f a b s ∙ rw (said-so ts offset size f r (bytes "_") true n, said-so ts off long (word a b s).0 (word a b s).2 (bytes "BitVec") false m)

      pub two-width : text_is ts offset size (bytes "_") ≡ true → text_is ts off long (bytes "BitVec") ≡ true → SortTwoAt ws ts offset size first (SortFound.Width low high)
      two-width n m f a b r s =
          as_two f a b s ∙ rw (said-so ts offset size f r (bytes "_") true n, said-so ts off long (word a b s).0 (word a b s).2 (bytes "BitVec") true m)

module _ (ws ts : List ℕ) (i many : ℕ) where
  pub list-word : (w : Option Word) → WordAt ws i w → w ≡ None → SortListAt ws ts i many SortFound.NoSort
  list-word w h e nil s = refl
  list-word w h e (cons a us) s = not-symbol a _ _ (subst (λ (x : Option Word). WordAt ws i x) e h ts a (first_of ws ts a us i many s))

  module _ (w : Option Word) (offset size : ℕ) (h : WordAt ws i w) (e : w ≡ Some (record { size = size; offset = offset })) (first : ℕ) (here : first ≡ after_at ws i) where
    head : (a : Tree) (us : Trees) → StandingAll (cons a us) ws ts i many → (f : List ℕ) × (a ≡ symbol f) × Reads f ts offset size
    head a us s = seen-word ws i w h ts size offset e a (first_of ws ts a us i many s)

    -- as for a symbol and the parts behind it
    by-head : (n : ℕ) → many ≡ suc n → (q : SortFound) → ((f : List ℕ) (us : Trees) → Reads f ts offset size → StandingAll us ws ts first n → SortShows ws ts q (sort_applied f us)) → SortListAt ws ts i many q
    by-head n m q k nil s = let c = s.many-are in absurd (omega arith)
    by-head n m q k (cons a us) s =
        let g = head a us s in
        subst (λ (x : Tree). SortShows ws ts q (sort_list (cons x us))) (sym g.1) (k g.0 us g.2 (others-of ws ts a us i many s first n here m))

    pub list-one : (q : SortFound) → many ≡ 2 → SortOneAt ws ts offset size first q → SortListAt ws ts i many q
    list-one q m k = by-head 1 m q one
      where
        one : (f : List ℕ) (us : Trees) → Reads f ts offset size → StandingAll us ws ts first 1 → SortShows ws ts q (sort_applied f us)
        one f nil r s = let c = s.many-are in absurd (omega arith)
        one f (cons a nil) r s = k f a r (first_of ws ts a nil first 1 s)
        one f (cons a (cons b us)) r s = let c = s.many-are in absurd (omega arith)

    pub list-two : (q : SortFound) → many ≡ 3 → SortTwoAt ws ts offset size first q → SortListAt ws ts i many q
    list-two q m k = by-head 2 m q two
      where
        two : (f : List ℕ) (us : Trees) → Reads f ts offset size → StandingAll us ws ts first 2 → SortShows ws ts q (sort_applied f us)
        two f nil r s = let c = s.many-are in absurd (omega arith)
        two f (cons a nil) r s = let c = s.many-are in absurd (omega arith)
        two f (cons a (cons b nil)) r s = k f a b r s
        two f (cons a (cons b (cons d us))) r s = let c = s.many-are in absurd (omega arith)

    pub list-other : (many ≡ 2 → ⊥) → (many ≡ 3 → ⊥) → SortListAt ws ts i many SortFound.NoSort
    list-other p q nil s = refl
    list-other p q (cons a nil) s = ap (λ (x : Tree). sort_list (cons x nil)) (head a nil s).1
    list-other p q (cons a (cons b nil)) s = absurd (p s.many-are)
    list-other p q (cons a (cons b (cons d nil))) s = absurd (q s.many-are)
    list-other p q (cons a (cons b (cons d (cons g us)))) s = ap (λ (x : Tree). sort_list (cons x (cons b (cons d (cons g us))))) (head a (cons b (cons d (cons g us))) s).1

module _ (ws ts : List ℕ) (i : ℕ) (w : Option Word) (h : WordAt ws i w) where
  pub sort-word : (offset size : ℕ) → w ≡ Some (record { size = size; offset = offset }) → SortShapeAt ws ts i (SortFound.Word offset size)
  unfolding sort_shape
  sort-word offset size e t s =
      let g = seen-word ws i w h ts size offset e t s in
      (g.0, ap sort_shape g.1, g.2)

  module _ (e : w ≡ None) (p : Option ℕ) (k : PartsAt ws i p) where
    no_word : (t : Tree) → Standing t ws ts i → sort_shape t ≡ on_app t no_sort sort_list
    unfolding sort_shape
    no_word t s = not-symbol t _ _ (subst (λ (x : Option Word). WordAt ws i x) e h ts t s)

    pub sort-atom : p ≡ None → SortShapeAt ws ts i SortFound.NoSort
    sort-atom d t s = no_word t s ∙ not-app t _ _ (subst (λ (x : Option ℕ). PartsAt ws i x) d k ts t s)

    pub sort-parts : (many : ℕ) → p ≡ Some many → (q : SortFound) → SortListAt ws ts (i + 1) many q → SortShapeAt ws ts i q
    sort-parts many d q l t s =
        let g = (subst (λ (x : Option ℕ). PartsAt ws i x) d k).1 ts t s in
        subst (λ (x : SortShape). SortShows ws ts q x) (sym (no_word t s ∙ ap (λ (x : Tree). on_app x no_sort sort_list) g.1)) (l g.0 g.2)
