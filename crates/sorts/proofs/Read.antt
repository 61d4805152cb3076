-- A written sort by its shape: one law for each way out.
-- Assumes nothing.
use Rattle.std.proofs.Common.{Err, Ok, Result}
use mathlib.Core.Path.{◌≡◌, refl, sym, ap, ◌∙◌, subst}
use mathlib.Core.List.{List}
use Prim.Native.Nat.{ℕ, zero, suc, ◌+◌, ◌*◌, ◌-◌, ◌^◌}
use native.Mathlib.Omega.{arith}
use Rattle.refusals.specs.declared.Refusal.{Refusal}
use Rattle.refusals.specs.declared.Refusal.TheVariants.{UnknownType, TooNested}
use Rattle.arena.specs.Text.{text_at}
use Rattle.arena.specs.Tree.{Tree}
use Rattle.tables.specs.Layout.{Lent, tables_of}
use Rattle.tables.specs.Sort.{Sort, option_of, set_of, Tables}
use Rattle.shapes.specs.declared.sort.SortFound.{SortFound}
use Rattle.shapes.specs.SortShape.{SortShape, SortShapeAt, SortShows, sort_shape}
use Rattle.shapes.specs.Shows.{Standing}
use Rattle.sorts.specs.Result.{◌>>=◌}
use Rattle.sorts.specs.Sort.{row_of, sort_of, read_sort}
use Rattle.sorts.specs.Reads.{sorted, WordSort, WidthSort, ReadsSort}

-- one level read
opened : (T : Tables) (allow : ℕ) (t : Tree) → (allow ≡ 0 → ⊥) → read_sort T allow t ≡ sort_of T (λ u. read_sort T (allow - 1) u) (sort_shape t)
unfolding read_sort
opened T zero t h = absurd (h refl)
opened T (suc a) t h = let e : a ≡ suc a - 1 = omega arith in ap (λ (b : ℕ). sort_of T (λ u. read_sort T b u) (sort_shape t)) e

-- an answer tells what was read
pub read-row : (m : Result ℕ Refusal) (q : Result ℕ Refusal) (row : ℕ) → q ≡ sorted m → q ≡ Ok row → m ≡ Ok row
read-row (Ok r) q row h k = let z : ◌≡◌ {A = (Result ℕ Refusal)} (Ok r) (Ok row) = sym h ∙ k in let y : r ≡ row = cc in ap Ok y
read-row (Err e) q row h k = let z : ◌≡◌ {A = (Result ℕ Refusal)} (Err e) (Ok row) = sym h ∙ k in let y : ◌≡◌ {A = ℕ} 0 1 = cc in absurd (omega arith)

pub read-refused : (m : Result ℕ Refusal) (q : Result ℕ Refusal) (e : Refusal) → q ≡ sorted m → q ≡ Err e → m ≡ Err e
read-refused (Ok r) q e h k = let z : ◌≡◌ {A = (Result ℕ Refusal)} (Ok r) (Err e) = sym h ∙ k in let y : ◌≡◌ {A = ℕ} 0 1 = cc in absurd (omega arith)
read-refused (Err f) q e h k = let z : ◌≡◌ {A = (Result ℕ Refusal)} (Err f) (Err e) = sym h ∙ k in let y : f ≡ e = cc in ap Err y

module _ (sorts names ws ts : List ℕ) (i allow : ℕ) where
  pub sort_nested : allow ≡ 0 → ReadsSort sorts names ws ts i allow (Err TooNested)
  unfolding read_sort
  sort_nested z l s n t q = ap (λ (a : ℕ). sorted (read_sort (tables_of l) a t)) (sym z)

  module _ (there : allow ≡ 0 → ⊥) (f : SortFound) (shown : SortShapeAt ws ts i f) where
    -- as for the shape, so for the tree
    by_shape : (r : Result ℕ Refusal) → ((l : Lent) → l.sorts ≡ sorts → l.names ≡ names → (s : SortShape) → SortShows ws ts f s → r ≡ sorted (sort_of (tables_of l) (λ u. read_sort (tables_of l) (allow - 1) u) s)) →
        ReadsSort sorts names ws ts i allow r
    by_shape r k l s n t q = k l s n (sort_shape t) (shown t q) ∙ ap sorted (sym (opened (tables_of l) allow t there))

    pub sort-word : (offset size : ℕ) → f ≡ SortFound.Word offset size → (r : Result ℕ Refusal) → WordSort sorts names (text_at ts offset size) r → ReadsSort sorts names ws ts i allow r
    sort-word offset size e r k = by_shape r (λ l s n sh g.
        let w = subst (λ (x : SortFound). SortShows ws ts x sh) e g in
        k l s n ∙ ap (λ (b : List ℕ). sorted (sort_of (tables_of l) (λ u. read_sort (tables_of l) (allow - 1) u) (SortShape.word b))) w.2.bytes
        ∙ ap (λ (x : SortShape). sorted (sort_of (tables_of l) (λ u. read_sort (tables_of l) (allow - 1) u) x)) (sym w.1))

    pub sort-width : (low high : ℕ) → f ≡ SortFound.Width low high → (r : Result ℕ Refusal) → WidthSort sorts (low + high * 2 ^ 64) r → ReadsSort sorts names ws ts i allow r
    sort-width low high e r k = by_shape r (λ l s n sh g.
        let w = subst (λ (x : SortFound). SortShows ws ts x sh) e g in
        k l s ∙ ap (λ (x : SortShape). sorted (sort_of (tables_of l) (λ u. read_sort (tables_of l) (allow - 1) u) x)) (sym w))

    pub sort-unknown : f ≡ SortFound.NoSort → ReadsSort sorts names ws ts i allow (Err UnknownType)
    sort-unknown e = by_shape (Err UnknownType) (λ l s n sh g.
        let w = subst (λ (x : SortFound). SortShows ws ts x sh) e g in
        ap (λ (x : SortShape). sorted (sort_of (tables_of l) (λ u. read_sort (tables_of l) (allow - 1) u) x)) (sym w))

    -- an option or a set: the sort inside is read, and then the row is that of the sort that it makes
    abbrev Makes : (ℕ → Sort) → ℕ → Type 0
    Makes make inner = (l : Lent) (sh : SortShape) → SortShows ws ts f sh →
        (t : Tree) × (sort_of (tables_of l) (λ u. read_sort (tables_of l) (allow - 1) u) sh ≡ (read_sort (tables_of l) (allow - 1) t >>= λ row. row_of (tables_of l) (make row))) × Standing t ws ts inner

    pub makes_option : (inner : ℕ) → f ≡ SortFound.OptionOf inner → Makes option_of inner
    makes_option inner e l sh g =
        let w = subst (λ (x : SortFound). SortShows ws ts x sh) e g in
        (w.0, ap (λ (x : SortShape). sort_of (tables_of l) (λ u. read_sort (tables_of l) (allow - 1) u) x) w.1, w.2)

    pub makes_set : (inner : ℕ) → f ≡ SortFound.SetOf inner → Makes set_of inner
    makes_set inner e l sh g =
        let w = subst (λ (x : SortFound). SortShows ws ts x sh) e g in
        (w.0, ap (λ (x : SortShape). sort_of (tables_of l) (λ u. read_sort (tables_of l) (allow - 1) u) x) w.1, w.2)

    module _ (make : ℕ → Sort) (inner : ℕ) (made : Makes make inner) (b : Result ℕ Refusal) (below : ReadsSort sorts names ws ts inner (allow - 1) b) where
      pub inner-refused : (z : Refusal) → b ≡ Err z → ReadsSort sorts names ws ts i allow (Err z)
      unfolding ◌>>=◌
      inner-refused z h = by_shape (Err z) (λ l s n sh g.
          let w = made l sh g in
          let e : read_sort (tables_of l) (allow - 1) w.0 ≡ Err z = read-refused (read_sort (tables_of l) (allow - 1) w.0) b z (below l s n w.0 w.2) h in
          sym (ap (λ (m : Result ℕ Refusal). sorted (m >>= λ row. row_of (tables_of l) (make row))) e) ∙ ap sorted (sym w.1))

      pub inner-row : (row : ℕ) → b ≡ Ok row → (r : Result ℕ Refusal) → ((l : Lent) → l.sorts ≡ sorts → r ≡ sorted (row_of (tables_of l) (make row))) → ReadsSort sorts names ws ts i allow r
      unfolding ◌>>=◌
      inner-row row h r k = by_shape r (λ l s n sh g.
          let w = made l sh g in
          let e : read_sort (tables_of l) (allow - 1) w.0 ≡ Ok row = read-row (read_sort (tables_of l) (allow - 1) w.0) b row (below l s n w.0 w.2) h in
          k l s ∙ sym (ap (λ (m : Result ℕ Refusal). sorted (m >>= λ x. row_of (tables_of l) (make x))) e) ∙ ap sorted (sym w.1))
