-- Document 01, "Sorts and literals" and "The model walk": a name or a sort to its row, the first one that has it.
use Rattle.std.specs.Prelude.{List, ℕ, None, Option, Some}
use Rattle.ground.specs.Lists.{find}
use Rattle.arena.specs.Text.{same_text}
use Rattle.tables.specs.Sort.{Sort, entity_of, Tables}
use Rattle.tables.specs.Rules.{same_sort}

-- the answer of a call
abbrev pub found : Option ℕ → Option ℕ
found None = None
found (Some i) = Some i

module _ (t : Tables) where
  unfoldable pub sort_row : Sort → Option ℕ
  sort_row s = find (same_sort s) t.sorts

  -- an entity's or a record's
  unfoldable pub named_sort : List ℕ → Option ℕ
  named_sort name = sort_row (entity_of name)

  unfoldable pub variable_row : List ℕ → Option ℕ
  variable_row name = find (λ v. same_text name v.name) t.variables

  unfoldable pub function_row : List ℕ → Option ℕ
  function_row name = find (λ f. same_text name f.name) t.functions

  unfoldable pub member_row : List ℕ → Option ℕ
  member_row name = find (λ m. same_text name m.name) t.members
