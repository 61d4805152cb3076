-- A function's body and its definition: one law for each way out.
-- Assumes nothing.
use Rattle.std.proofs.Common.{Option, Err, Ok, Result, Some}
use mathlib.Core.Path.{◌≡◌, refl, sym, ap, ◌∙◌, subst}
use mathlib.Core.Bool.{Bool, true, false}
use mathlib.Core.List.{List}
use Prim.Native.Nat.{ℕ}
use lib.Dec.{eqb}
use borrow.Author.Tests.{eq-eqb, ne_eqb}
use Rattle.ground.specs.Lists.{at}
use Rattle.refusals.specs.declared.Refusal.{Refusal}
use Rattle.refusals.specs.declared.Refusal.TheVariants.{UnmatchedType}
use Rattle.arena.specs.Tree.{Tree, Trees}
use Rattle.tables.specs.declared.sort.SortRow.{SortRow}
use Rattle.tables.specs.Layout.{Lent, tables_of}
use Rattle.tables.specs.View.{sort_row_at, meant}
use Rattle.tables.proofs.Sorts.{row-meant}
use Rattle.shapes.specs.Shows.{Standing}
use Rattle.sorts.specs.Reads.{ReadsSort}
use Rattle.sorts.specs.Result.{◌>>=◌, unless}
use Rattle.sorts.specs.Sort.{read_sort, levels}
use Rattle.sorts.proofs.Read.{read-row, read-refused}
use Rattle.commands.specs.Command.{tests}
use Rattle.commands.specs.TestShows.{TestsShow, TestsAt}
use Rattle.model.specs.Model.{is_bool, body_by, read_body}
use Rattle.definitions.specs.Measure.{table_size, measured, bool_row, TestsOf, BodyAt, FunctionAt}
use Rattle.commands.specs.declared.test.Disjunction.{Disjunction}

bool-meant : (l : Lent) (i : ℕ) (q : SortRow) → is_bool (meant l i q) ≡ bool_row q
bool-meant l i SortRow.Bool = refl
bool-meant l i SortRow.String = refl
bool-meant l i SortRow.Decimal = refl
bool-meant l i SortRow.Datetime = refl
bool-meant l i SortRow.Duration = refl
bool-meant l i (SortRow.BitVec w) = refl
bool-meant l i (SortRow.Option q) = refl
bool-meant l i (SortRow.Set q) = refl
bool-meant l i SortRow.Entity = refl
bool-meant l i (SortRow.Record f n) = refl
bool-meant l i SortRow.NoRow = refl

module _ (sorts fields members names ws ts : List ℕ) (offset size argument result body : ℕ) (q : Option Disjunction) (h : TestsAt ws ts body q) where
  module _ (first many : ℕ) (e : q ≡ Some (record { first = first; count = many })) (sort : SortRow) (here : sort ≡ sort_row_at sorts result) where
    is-bool : (l : Lent) → l.sorts ≡ sorts → (b : Bool) → b ≡ bool_row sort → is_bool (at (tables_of l).sorts result) ≡ b
    is-bool l s b f =
        ap is_bool (row-meant l result ∙ ap (λ (q : SortRow). meant l result q) (ap (λ (ws : List ℕ). sort_row_at ws result) s ∙ sym here)) ∙ bool-meant l result sort ∙ sym f

    pub body-other : (b : Bool) → b ≡ bool_row sort → b ≡ false → BodyAt sorts fields members names ws ts offset size argument result body (Err UnmatchedType)
    unfolding unless
    body-other b f n l g x t z s =
        let w = subst (λ (y : Option Disjunction). TestsShow ws ts y (tests t)) e (h t s) in
        sym (ap (λ (o : Option Trees). measured table_size (body_by (tables_of l) x argument result t o)) w.1
        ∙ rw (is-bool l g.sorts-are b f ∙ n))

    pub body-tests : (b : Bool) → b ≡ bool_row sort → b ≡ true → (r : Result ℕ Refusal) → TestsOf sorts fields members names ws ts offset size argument first many r → BodyAt sorts fields members names ws ts offset size argument result body r
    unfolding unless
    body-tests b f n r k l g x t z s =
        let w = subst (λ (y : Option Disjunction). TestsShow ws ts y (tests t)) e (h t s) in
        k l g x w.0 result z w.2
        ∙ sym (ap (λ (o : Option Trees). measured table_size (body_by (tables_of l) x argument result t o)) w.1
        ∙ rw (is-bool l g.sorts-are b f ∙ n))

module _ (sorts fields members names ws ts : List ℕ) (argument result offset size arg_sort sort body : ℕ) (q : Result ℕ Refusal) (h : ReadsSort sorts names ws ts arg_sort levels q) where
  abbrev Next : Lent → List ℕ → Tree → Tree → Result ℕ Refusal → Result ℕ Refusal → Result ℕ Refusal
  Next l x s t m k = measured table_size (m >>= λ a. k >>= λ b. unless (eqb a argument) UnmatchedType (unless (eqb b result) UnmatchedType (read_body (tables_of l) x a b t)))

  pub function-first : (z : Refusal) → q ≡ Err z → FunctionAt sorts fields members names ws ts argument result offset size arg_sort sort body (Err z)
  unfolding ◌>>=◌
  function-first z e l g name x p s t r a b c =
      let w : read_sort (tables_of l) levels p ≡ Err z = read-refused (read_sort (tables_of l) levels p) q z (h l g.sorts-are g.names-are p a) e in
      sym (ap (λ (m : Result ℕ Refusal). Next l x s t m (read_sort (tables_of l) levels s)) w)

  module _ (row : ℕ) (e : q ≡ Ok row) (o : Result ℕ Refusal) (k : ReadsSort sorts names ws ts sort levels o) where
    first-is : (l : Lent) → l.sorts ≡ sorts → l.names ≡ names → (p : Tree) → Standing p ws ts arg_sort → read_sort (tables_of l) levels p ≡ Ok row
    first-is l s n p a = read-row (read_sort (tables_of l) levels p) q row (h l s n p a) e

    pub function-second : (z : Refusal) → o ≡ Err z → FunctionAt sorts fields members names ws ts argument result offset size arg_sort sort body (Err z)
    unfolding ◌>>=◌
    function-second z f l g name x p s t r a b c =
        let w : read_sort (tables_of l) levels s ≡ Err z = read-refused (read_sort (tables_of l) levels s) o z (k l g.sorts-are g.names-are s b) f in
        sym (ap (λ (m : Result ℕ Refusal). Next l x s t m (read_sort (tables_of l) levels s)) (first-is l g.sorts-are g.names-are p a) ∙ ap (λ (m : Result ℕ Refusal). Next l x s t (Ok row) m) w)

    module _ (other : ℕ) (f : o ≡ Ok other) where
      both-are : (l : Lent) (x : List ℕ) (p s t : Tree) → l.sorts ≡ sorts → l.names ≡ names → Standing p ws ts arg_sort → Standing s ws ts sort →
          Next l x s t (read_sort (tables_of l) levels p) (read_sort (tables_of l) levels s) ≡ Next l x s t (Ok row) (Ok other)
      both-are l x p s t u v a b =
          ap (λ (m : Result ℕ Refusal). Next l x s t m (read_sort (tables_of l) levels s)) (first-is l u v p a)
          ∙ ap (λ (m : Result ℕ Refusal). Next l x s t (Ok row) m) (read-row (read_sort (tables_of l) levels s) o other (k l u v s b) f)

      pub function-argument : (row ≡ argument → ⊥) → FunctionAt sorts fields members names ws ts argument result offset size arg_sort sort body (Err UnmatchedType)
      unfolding ◌>>=◌ unless
      function-argument d l g name x p s t r a b c = sym (both-are l x p s t g.sorts-are g.names-are a b ∙ rw (ne_eqb row argument d))

      module _ (same : row ≡ argument) where
        pub function-result : (other ≡ result → ⊥) → FunctionAt sorts fields members names ws ts argument result offset size arg_sort sort body (Err UnmatchedType)
        unfolding ◌>>=◌ unless
        function-result d l g name x p s t r a b c = sym (both-are l x p s t g.sorts-are g.names-are a b ∙ rw (eq-eqb row argument same, ne_eqb other result d))

        pub function-body : other ≡ result → (m : Result ℕ Refusal) → BodyAt sorts fields members names ws ts offset size row other body m → FunctionAt sorts fields members names ws ts argument result offset size arg_sort sort body m
        unfolding ◌>>=◌ unless
        function-body d m n l g name x p s t r a b c = n l g x t r c ∙ sym (both-are l x p s t g.sorts-are g.names-are a b ∙ rw (eq-eqb row argument same, eq-eqb other result d))
