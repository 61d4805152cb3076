-- What is read with an allowance is read alike with more, and with operators worked out.
-- Assumes nothing.
use Rattle.std.proofs.Common.{None, Option, Some, Ok, Result}
use mathlib.Core.Path.{◌≡◌, refl, sym}
use mathlib.Core.Bool.{Bool, true, false, true≢false}
use mathlib.Core.List.{List, [], ◌∷◌}
use Prim.Native.Nat.{ℕ, zero, suc}
use Rattle.ground.specs.Lists.{at}
use Rattle.refusals.specs.declared.Refusal.{Refusal}
use Rattle.refusals.specs.declared.Refusal.TheVariants.{UnmatchedFieldType, UnmatchedRecordType}
use Rattle.arena.specs.Tree.{Tree, Trees, bit_vec as bits, numeral, string as quoted, symbol, app, nil, cons}
use Rattle.tables.specs.Sort.{Sort, bool, string, ext, bit_vec, option_of, set_of, entity_of, record_of, Tables}
use Rattle.shapes.specs.Shape.{Shape, unary, binary, ite, uncovered, as_none, as_some, some_of, as_empty, singleton, union, extension, indexed, made, other, shape}
use Rattle.shapes.specs.SortShape.{SortShape, word, width_of, option_of as option_shape, set_of as set_shape, no_sort, sort_shape}
use Rattle.sorts.specs.Result.{◌>>=◌, unless}
use Rattle.sorts.specs.Sort.{sort_of, read_sort}
use Rattle.values.specs.Value.{Values}
use Rattle.means.specs.Literal.{Lit, fields_of, made_row, app_lit, read_with}
use Rattle.well_sorted.proofs.Results.{refuses, went}

-- onwards, by another first step
onwards : {A B : Type 0} (m n : Result A Refusal) (f g : A → Result B Refusal) (b : B) → (m >>= f) ≡ Ok b → ((a : A) → m ≡ Ok a → n ≡ Ok a) → ((a : A) → f a ≡ Ok b → g a ≡ Ok b) → (n >>= g) ≡ Ok b
unfolding ◌>>=◌
onwards m n f g b e p q =
    let w = went m f b e in
    rw (p w.got w.first) (q w.got w.next)

tested : {A : Type 0} (test : Bool) (r : Refusal) (k l : Result A Refusal) (a : A) → unless test r k ≡ Ok a → (k ≡ Ok a → l ≡ Ok a) → unless test r l ≡ Ok a
unfolding unless
tested true r k l a e f = f e
tested false r k l a e f = refuses e

module _ (T : Tables) (sort sort' : Tree → Result ℕ Refusal) (more-sort : (t : Tree) (row : ℕ) → sort t ≡ Ok row → sort' t ≡ Ok row) where
  deeper-shape : (s : SortShape) (row : ℕ) → sort_of T sort s ≡ Ok row → sort_of T sort' s ≡ Ok row
  deeper-shape (word s) row e = e
  deeper-shape (width_of n) row e = e
  deeper-shape (option_shape t) row e = onwards _ _ _ _ row e (λ q. more-sort t q) (λ q k. k)
  deeper-shape (set_shape t) row e = onwards _ _ _ _ row e (λ q. more-sort t q) (λ q k. k)
  deeper-shape no_sort row e = refuses e

  module _ (lit lit' : Option ℕ → Tree → Result Lit Refusal) (more-lit : (e : Option ℕ) (t : Tree) (l : Lit) → lit e t ≡ Ok l → lit' e t ≡ Ok l) where
    deeper-fields : (fs : List ℕ) (us : Trees) (vs : Values) → fields_of lit fs us ≡ Ok vs → fields_of lit' fs us ≡ Ok vs
    deeper-fields [] us vs e = e
    deeper-fields (f ∷ fs) nil vs e = e
    deeper-fields (f ∷ fs) (cons u us) vs e =
        onwards _ _ _ _ vs e (λ l. more-lit (Some f) u l) (λ l m.
        tested _ UnmatchedFieldType _ _ vs m (λ k. onwards _ _ _ _ vs k (λ ws. deeper-fields fs us ws) (λ ws h. h)))

    deeper-row : (row : ℕ) (o : Option Sort) (us : Trees) (l : Lit) → made_row T sort lit row o us ≡ Ok l → made_row T sort' lit' row o us ≡ Ok l
    deeper-row row None us l e = refuses e
    deeper-row row (Some bool) us l e = refuses e
    deeper-row row (Some string) us l e = refuses e
    deeper-row row (Some (ext x)) us l e = refuses e
    deeper-row row (Some (bit_vec w)) us l e = refuses e
    deeper-row row (Some (option_of q)) us l e = refuses e
    deeper-row row (Some (set_of q)) us l e = refuses e
    deeper-row row (Some (entity_of name)) us l e = e
    deeper-row row (Some (record_of name fs)) us l e =
        tested _ UnmatchedRecordType _ _ l e (λ k. onwards _ _ _ _ l k (λ vs. deeper-fields fs us vs) (λ vs h. h))

    deeper-app : (o o' : Bool) → (o ≡ true → o' ≡ true) → (e : Option ℕ) (s : Shape) (l : Lit) → app_lit T sort lit o e s ≡ Ok l → app_lit T sort' lit' o' e s ≡ Ok l
    deeper-app true o' h e (unary op v) l m = rw (h refl) (onwards _ _ _ _ l m (λ j. more-lit None v j) (λ j h. h))
    deeper-app false o' h e (unary op v) l m = refuses m
    deeper-app true o' h e (binary op v w) l m = rw (h refl) (onwards _ _ _ _ l m (λ j. more-lit None v j) (λ j k. onwards _ _ _ _ l k (λ i. more-lit None w i) (λ i h. h)))
    deeper-app false o' h e (binary op v w) l m = refuses m
    deeper-app true o' h e (ite c v w) l m =
        rw (h refl) (onwards _ _ _ _ l m (λ j. more-lit None c j) (λ j k. onwards _ _ _ _ l k (λ i. more-lit e v i) (λ i k. onwards _ _ _ _ l k (λ i. more-lit e w i) (λ i h. h))))
    deeper-app false o' h e (ite c v w) l m = refuses m
    deeper-app o o' h e uncovered l m = refuses m
    deeper-app o o' h e (as_none t) l m = onwards _ _ _ _ l m (λ q. more-sort t q) (λ q k. k)
    deeper-app o o' h e (as_some t v) l m = onwards _ _ _ _ l m (λ q. more-sort t q) (λ q k. onwards _ _ _ _ l k (λ j. more-lit _ v j) (λ j h. h))
    deeper-app o o' h e (some_of v) l m = onwards _ _ _ _ l m (λ q k. k) (λ q k. onwards _ _ _ _ l k (λ j. more-lit _ v j) (λ j h. h))
    deeper-app o o' h e (as_empty t) l m = onwards _ _ _ _ l m (λ q. more-sort t q) (λ q k. k)
    deeper-app o o' h e (singleton v) l m = onwards _ _ _ _ l m (λ q k. k) (λ q k. onwards _ _ _ _ l k (λ j. more-lit _ v j) (λ j h. h))
    deeper-app o o' h e (union v w) l m = onwards _ _ _ _ l m (λ j. more-lit e v j) (λ j k. onwards _ _ _ _ l k (λ i. more-lit e w i) (λ i h. h))
    deeper-app o o' h e (extension x n) l m = m
    deeper-app o o' h e (indexed digits w) l m = m
    deeper-app o o' h e (made name us) l m = onwards _ _ _ _ l m (λ row k. k) (λ row k. deeper-row row (at T.sorts row) us l k)
    deeper-app o o' h e other l m = refuses m

module _ (T : Tables) where
  pub deeper-sort : (allow : ℕ) (t : Tree) (row : ℕ) → read_sort T allow t ≡ Ok row → read_sort T (suc allow) t ≡ Ok row
  unfolding read_sort
  deeper-sort zero t row e = refuses e
  deeper-sort (suc a) t row e =
      deeper-shape T (λ u. read_sort T a u) (λ u. read_sort T (suc a) u) (λ u q. deeper-sort a u q) (sort_shape t) row e

  pub deeper : (o : Bool) (allow : ℕ) (expected : Option ℕ) (t : Tree) (l : Lit) → read_with T o allow expected t ≡ Ok l → read_with T o (suc allow) expected t ≡ Ok l
  unfolding read_with
  deeper o zero e t l m = refuses m
  deeper o (suc a) e (bits w n) l m = m
  deeper o (suc a) e (numeral n) l m = refuses m
  deeper o (suc a) e (quoted s) l m = m
  deeper o (suc a) e (symbol s) l m = m
  deeper o (suc a) e (app us) l m =
      deeper-app T (λ u. read_sort T a u) (λ u. read_sort T (suc a) u) (λ u q. deeper-sort a u q)
      (λ x u. read_with T o a x u) (λ x u. read_with T o (suc a) x u) (λ x u k h. deeper o a x u k h) o o (λ h. h) e (shape us) l m

  -- and what is read with operators refused, with operators worked out
  pub worked-too : (o : Bool) (allow : ℕ) (expected : Option ℕ) (t : Tree) (l : Lit) → read_with T false allow expected t ≡ Ok l → read_with T o allow expected t ≡ Ok l
  unfolding read_with
  worked-too o zero e t l m = refuses m
  worked-too o (suc a) e (bits w n) l m = m
  worked-too o (suc a) e (numeral n) l m = refuses m
  worked-too o (suc a) e (quoted s) l m = m
  worked-too o (suc a) e (symbol s) l m = m
  worked-too o (suc a) e (app us) l m =
      deeper-app T (λ u. read_sort T a u) (λ u. read_sort T a u) (λ u q h. h)
      (λ x u. read_with T false a x u) (λ x u. read_with T o a x u) (λ x u k h. worked-too o a x u k h) false o (λ h. absurd (true≢false (sym h))) e (shape us) l m
