-- A name to its row: what the one search answers is what the definitions say of each table.
-- Assumes nothing.
use Rattle.std.proofs.Common.{Option}
use mathlib.Core.Path.{◌≡◌, refl, sym, ◌∙◌}
use mathlib.Core.List.{List}
use Prim.Native.Nat.{ℕ, ◌-◌}
use native.Mathlib.Nat.{sub-zero}
use Rattle.arena.specs.Text.{same_text}
use Rattle.tables.specs.Layout.{count, name_at, variable_at, function_at, member_at, tables_of}
use Rattle.tables.specs.Find.{variable_row, function_row, member_row}
use Rattle.tables.specs.Search.{first_row}
use Rattle.tables.specs.Lookup.{FindsVariable, FindsFunction, FindsMember}
use Rattle.tables.proofs.Searches.{first_found}

-- the first row so named
abbrev pub named : List ℕ → List ℕ → List ℕ → Option ℕ
named ws names name = first_row (λ i. same_text name (name_at names ws i)) 0 (count ws - 0)

module _ (ws names name : List ℕ) (r : Option ℕ) (e : r ≡ named ws names name) where
  pub finds_variable : FindsVariable ws names name r
  unfolding variable_row tables_of
  finds_variable l h g =
      e ∙ rw (sym h, sym g, sub-zero (count l.variables))
      (first_found (λ i. same_text name (name_at l.names l.variables i)) (variable_at l) (λ v. same_text name v.name) (λ i. refl) (count l.variables))

  pub finds_function : FindsFunction ws names name r
  unfolding function_row tables_of
  finds_function l h g =
      e ∙ rw (sym h, sym g, sub-zero (count l.functions))
      (first_found (λ i. same_text name (name_at l.names l.functions i)) (function_at l) (λ f. same_text name f.name) (λ i. refl) (count l.functions))

  pub finds_member : FindsMember ws names name r
  unfolding member_row tables_of
  finds_member l h g =
      e ∙ rw (sym h, sym g, sub-zero (count l.members))
      (first_found (λ i. same_text name (name_at l.names l.members i)) (member_at l) (λ m. same_text name m.name) (λ i. refl) (count l.members))
