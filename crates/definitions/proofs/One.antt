-- Any two results of checking a definition are equal, where its parts stand at their nodes.
-- Assumes nothing.
use Rattle.std.proofs.Common.{Result}
use mathlib.Core.Path.{◌≡◌, refl}
use mathlib.Core.List.{List, []}
use Prim.Native.Nat.{ℕ}
use Rattle.ground.proofs.Tests.{one-result}
use Rattle.arena.specs.Tree.{Tree}
use Rattle.tables.specs.Layout.{Lent}
use Rattle.shapes.specs.Shows.{Standing, Reads}
use Rattle.literals.specs.Plan.{Given}
use Rattle.definitions.specs.Measure.{ValueAt, VariableAt, FunctionAt}
use Rattle.refusals.specs.declared.Refusal.{Refusal}

module _ (sorts fields members names ws ts : List ℕ) where
  abbrev lent : Lent
  lent = record { sorts = sorts; fields = fields; variables = []; functions = []; members = members; names = names }

  given : Given sorts fields members names lent
  given = record { sorts-are = refl; fields-are = refl; members-are = refl; names-are = refl }

  pub one-value-need : (row value : ℕ) (t : Tree) (m n : Result ℕ Refusal) → Standing t ws ts value →
      ValueAt sorts fields members names ws ts row value m → ValueAt sorts fields members names ws ts row value n → m ≡ n
  one-value-need row value t m n a p q = one-result (p lent given t a) (q lent given t a)

  pub one-variable-need : (declared sort value : ℕ) (s t : Tree) (m n : Result ℕ Refusal) → Standing s ws ts sort → Standing t ws ts value →
      VariableAt sorts fields members names ws ts declared sort value m → VariableAt sorts fields members names ws ts declared sort value n → m ≡ n
  one-variable-need declared sort value s t m n a b p q = one-result (p lent given [] s t a b) (q lent given [] s t a b)

  pub one-function-need : (argument result offset size arg_sort sort body : ℕ) (x : List ℕ) (p s t : Tree) (m n : Result ℕ Refusal) →
      Reads x ts offset size → Standing p ws ts arg_sort → Standing s ws ts sort → Standing t ws ts body →
      FunctionAt sorts fields members names ws ts argument result offset size arg_sort sort body m →
      FunctionAt sorts fields members names ws ts argument result offset size arg_sort sort body n → m ≡ n
  one-function-need argument result offset size arg_sort sort body x p s t m n r a b c f g = one-result (f lent given [] x p s t r a b c) (g lent given [] x p s t r a b c)
