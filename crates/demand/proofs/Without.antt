-- The listing of a reply to get-value is that of a model without functions.
-- Assumes nothing.
use Rattle.std.proofs.Common.{None, Option, Ok}
use mathlib.Core.Path.{◌≡◌, refl, ap₂}
use mathlib.Core.Bool.{true}
use mathlib.Core.List.{List, [], ◌∷◌, ◌++◌, map, append-nil}
use Prim.Native.Nat.{ℕ, suc, ◌+◌}
use Rattle.arena.specs.Tree.{Tree}
use Rattle.decimals.specs.Decimal.{decimal}
use Rattle.tables.specs.Rules.{lawful}
use Rattle.tables.specs.Sort.{Function, Tables}
use Rattle.well_sorted.specs.Octets.{Octets}
use Rattle.model.specs.Model.{Table, Definition, read_values, last_function}
use Rattle.model.specs.Listing.{line, function_lines, variables_from, functions_from, one, variable_count, function_count, settled, rendered, listing}
use Rattle.demand.proofs.Theorem.{values-demand}

-- rows of which none is defined have no lines
module _ (ds : List Definition) (none_is : (i : ℕ) → last_function i ds ≡ None) where
  no_lines : (k : ℕ) (fs : List Function) → functions_from ds k fs ≡ []
  no_lines k [] = refl
  no_lines k (f ∷ fs) = ap₂ (λ (o : Option Table) (l : List ℕ). function_lines f o ++ l) (none_is k) (no_lines (suc k) fs)

  no-count : (k : ℕ) (fs : List Function) → function_count ds k fs ≡ 0
  no-count k [] = refl
  no-count k (f ∷ fs) = ap₂ (λ (o : Option Table) (n : ℕ). one ds o + n) (none_is k) (no-count (suc k) fs)

pub values-listing : (T : Tables) → lawful T ≡ true → (t : Tree) (ds : List Definition) → Octets t → read_values T t ≡ Ok ds →
    listing T ds ≡ line "vars" (decimal (variable_count (map settled ds) 0 T.variables)) ++ (line "funs" (decimal 0) ++ variables_from (map settled ds) 0 T.variables)
unfolding listing rendered
values-listing T rules t ds o e =
    let h = (values-demand T rules t ds o e).functions in
    let vs = variables_from (map settled ds) 0 T.variables in
    rw (no_lines (map settled ds) h 0 T.functions, no-count (map settled ds) h 0 T.functions, append-nil vs) refl
