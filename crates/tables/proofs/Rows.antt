-- Rows by their numbers: how many a table has, what stands at each, and that one found is one of them.
-- Assumes nothing.
use Rattle.std.proofs.Common.{Some}
use mathlib.Core.Path.{◌≡◌}
use mathlib.Core.List.{List}
use Prim.Native.Nat.{ℕ, ◌<◌}
use native.Mathlib.Omega.{arith}
use lib.ListN.{length}
use Rattle.ground.specs.Lists.{at}
use Rattle.arena.specs.Text.{same_text}
use Rattle.tables.specs.Layout.{Lent, count, variable_at, function_at, tables_of}
use Rattle.tables.specs.Find.{variable_row, function_row}
use Rattle.tables.proofs.Places.{length-tabulate, at-tabulate, find-within}

module _ (l : Lent) where
  pub variable-count : length (tables_of l).variables ≡ count l.variables
  unfolding tables_of
  variable-count = length-tabulate (variable_at l) 0 (count l.variables)

  pub function-count : length (tables_of l).functions ≡ count l.functions
  unfolding tables_of
  function-count = length-tabulate (function_at l) 0 (count l.functions)

  module _ (i : ℕ) where
    pub variable-row : i < count l.variables → at (tables_of l).variables i ≡ Some (variable_at l i)
    unfolding tables_of
    variable-row h = at-tabulate (variable_at l) (count l.variables) i h

    pub function-row : i < count l.functions → at (tables_of l).functions i ≡ Some (function_at l i)
    unfolding tables_of
    function-row h = at-tabulate (function_at l) (count l.functions) i h

    module _ (name : List ℕ) where
      pub variable-within : variable_row (tables_of l) name ≡ Some i → i < count l.variables
      unfolding variable_row
      variable-within e = let h = find-within (λ v. same_text name v.name) (tables_of l).variables i e in omega (arith, h, variable-count)

      pub function-within : function_row (tables_of l) name ≡ Some i → i < count l.functions
      unfolding function_row
      function-within e = let h = find-within (λ f. same_text name f.name) (tables_of l).functions i e in omega (arith, h, function-count)
