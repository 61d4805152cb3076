-- A variable's definition: one law for each way out.
-- Assumes nothing.
use Rattle.std.proofs.Common.{Some, Err, Ok, Result}
use mathlib.Core.Path.{◌≡◌, refl, sym, ap, ◌∙◌}
use mathlib.Core.List.{List}
use Prim.Native.Nat.{ℕ}
use lib.Dec.{eqb}
use Rattle.ground.proofs.Tests.{by_test}
use Rattle.refusals.specs.declared.Refusal.{Refusal}
use Rattle.refusals.specs.declared.Refusal.TheVariants.{UnmatchedType}
use Rattle.arena.specs.Tree.{Tree}
use Rattle.tables.specs.Layout.{tables_of}
use Rattle.tables.specs.Sort.{Tables}
use Rattle.sorts.specs.Reads.{ReadsSort}
use Rattle.sorts.specs.Result.{◌>>=◌, unless}
use Rattle.sorts.specs.Sort.{read_sort, levels}
use Rattle.sorts.proofs.Read.{read-row, read-refused}
use Rattle.values.specs.Value.{Value}
use Rattle.means.specs.Literal.{read}
use Rattle.literals.specs.Plan.{DecodesAt}
use Rattle.model.specs.Model.{value_as}
use Rattle.definitions.specs.Measure.{value_size, measured, declared_as, ValueOf, ValueAt, VariableAt}
use Rattle.literals.specs.declared.answer.Literal.{Literal}

-- a value that was read, with the table's sort looked at last
asks : (m : Result Value Refusal) (row declared : ℕ) → declared_as (measured value_size m) row declared ≡ measured value_size (m >>= λ x. unless (eqb declared row) UnmatchedType (Ok x))
unfolding ◌>>=◌ unless
asks (Err r) row declared = refl
asks (Ok x) row declared = by_test (eqb declared row) (λ e. rw e refl) (λ e. rw e refl)

pub value-is : (sorts fields members names ws ts : List ℕ) (row value : ℕ) (x : Result Literal Refusal) → DecodesAt sorts fields members names ws ts value (Some row) levels x → (m : Result ℕ Refusal) → ValueOf x row m →
    ValueAt sorts fields members names ws ts row value m
value-is sorts fields members names ws ts row value x d m k l g t b = k (read (tables_of l) levels (Some row) t) (d l g t b)

module _ (sorts fields members names ws ts : List ℕ) (declared sort value : ℕ) (q : Result ℕ Refusal) (h : ReadsSort sorts names ws ts sort levels q) where
  abbrev rest : Tables → Tree → Result ℕ Refusal → Result Value Refusal
  rest T t m = m >>= λ row. value_as T row t >>= λ x. unless (eqb declared row) UnmatchedType (Ok x)

  pub variable-sort : (z : Refusal) → q ≡ Err z → VariableAt sorts fields members names ws ts declared sort value (Err z)
  unfolding ◌>>=◌
  variable-sort z e l g name s t a b =
      let w : read_sort (tables_of l) levels s ≡ Err z = read-refused (read_sort (tables_of l) levels s) q z (h l g.sorts-are g.names-are s a) e in
      sym (ap (λ (m : Result ℕ Refusal). measured value_size (rest (tables_of l) t m)) w)

  pub variable-value : (row : ℕ) → q ≡ Ok row → (m : Result ℕ Refusal) → ValueAt sorts fields members names ws ts row value m → (r : Result ℕ Refusal) → r ≡ declared_as m row declared → VariableAt sorts fields members names ws ts declared sort value r
  unfolding ◌>>=◌
  variable-value row e m k r f l g name s t a b =
      let w : read_sort (tables_of l) levels s ≡ Ok row = read-row (read_sort (tables_of l) levels s) q row (h l g.sorts-are g.names-are s a) e in
      f ∙ ap (λ (n : Result ℕ Refusal). declared_as n row declared) (k l g t b) ∙ asks (value_as (tables_of l) row t) row declared
      ∙ sym (ap (λ (m : Result ℕ Refusal). measured value_size (rest (tables_of l) t m)) w)
