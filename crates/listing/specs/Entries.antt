-- Document 01, "The listing": the lines of one name and of all names in table order, and what is left where they are written.
use Rattle.std.specs.Prelude.{List, [], ◌++◌, map, ◌≡◌, true, ℕ, ◌<◌, None, Option, Some, Ok}
use Rattle.arena.specs.Tree.{Tree}
use Rattle.tables.specs.Layout.{Lent, variable_at, function_at, tables_of}
use Rattle.tables.specs.Rules.{lawful}
use Rattle.shapes.specs.Shows.{Standing, Reads}
use Rattle.values.specs.Normal.{normal}
use Rattle.values.specs.Value.{Value}
use Rattle.value_text.specs.Laid.{Lays}
use Rattle.model.specs.Model.{Definition, Table, is_variable, is_function, read_body}
use Rattle.model.specs.Listing.{settled, settled_table, variable_lines, function_lines, variables_from, functions_from}
use Rattle.demand.specs.Fits.{TableFits}
use Rattle.walk.specs.Last.{slots, last_in}
use Rattle.walk.specs.Placed.{Placed, its}
use Rattle.listing.specs.Grounds.{ValueStands, TableStands, Known}

module _ (l : Lent) where
  -- the lines of a definition
  abbrev pub entry : Definition → List ℕ
  entry (is_variable i v) = variable_lines (variable_at l i) (Some v)
  entry (is_function i t) = function_lines (function_at l i) (Some t)

  -- of a slot's, as it stands and settled
  abbrev pub entry_in : Option Placed → List ℕ
  entry_in None = []
  entry_in (Some p) = entry p.it

  abbrev pub settled_in : Option Placed → List ℕ
  settled_in None = []
  settled_in (Some p) = entry (settled p.it)

  -- of all, in table order
  abbrev pub entries : List Definition → List ℕ
  entries ds = variables_from ds 0 (tables_of l).variables ++ functions_from ds 0 (tables_of l).functions

module _ (l : Lent) (ws ts : List ℕ) where
  -- a variable's lines, by the node of its value
  abbrev pub LaysVariable : ℕ → ℕ → List ℕ → List ℕ → ℕ → ℕ → Type 0
  LaysVariable row value before after place r =
      (v : Value) → ValueStands l ws ts v value →
      Lays (variable_lines (variable_at l row) (Some v)) (variable_lines (variable_at l row) (Some (normal v))) before after place r

  -- a function's, by the node of its body and its argument's text, and by the node of its command
  abbrev pub LaysBody : ℕ → ℕ → ℕ → ℕ → List ℕ → List ℕ → ℕ → ℕ → Type 0
  LaysBody row offset long body before after place r =
      (x : List ℕ) (b : Tree) (argument result : ℕ) (t : Table) → Reads x ts offset long → Standing b ws ts body →
      read_body (tables_of l) x argument result b ≡ Ok t → TableFits (tables_of l) argument result t →
      Lays (function_lines (function_at l row) (Some t)) (function_lines (function_at l row) (Some (settled_table t))) before after place r

  abbrev pub LaysFunction : ℕ → ℕ → List ℕ → List ℕ → ℕ → ℕ → Type 0
  LaysFunction row node before after place r =
      (t : Table) → lawful (tables_of l) ≡ true → TableStands l ws ts row t node →
      Lays (function_lines (function_at l row) (Some t)) (function_lines (function_at l row) (Some (settled_table t))) before after place r

  -- a slot's lines and those of all slots, by what is noted
  abbrev pub LaysEntry : List ℕ → ℕ → List ℕ → List ℕ → ℕ → ℕ → Type 0
  LaysEntry last slot before after place r =
      (ps : List Placed) → Known l ws ts last ps → slot < slots →
      Lays (entry_in l (last_in l slot ps)) (settled_in l (last_in l slot ps)) before after place r

  abbrev pub LaysEntries : List ℕ → List ℕ → List ℕ → ℕ → ℕ → Type 0
  LaysEntries last before after place r =
      (ps : List Placed) → Known l ws ts last ps → Lays (entries l (its ps)) (entries l (map settled (its ps))) before after place r

-- what is lent, the lists that are not looked at being any
abbrev pub OfVariables : (Lent → Type 0) → List ℕ → List ℕ → List ℕ → List ℕ → Type 0
OfVariables P sorts variables members names =
    (fields functions : List ℕ) → P (record { sorts = sorts; fields = fields; variables = variables; functions = functions; members = members; names = names })

abbrev pub OfFunctions : (Lent → Type 0) → List ℕ → List ℕ → List ℕ → List ℕ → Type 0
OfFunctions P sorts functions members names =
    (fields variables : List ℕ) → P (record { sorts = sorts; fields = fields; variables = variables; functions = functions; members = members; names = names })

abbrev pub OfBoth : (Lent → Type 0) → List ℕ → List ℕ → List ℕ → List ℕ → List ℕ → Type 0
OfBoth P sorts variables functions members names =
    (fields : List ℕ) → P (record { sorts = sorts; fields = fields; variables = variables; functions = functions; members = members; names = names })

-- the same of what is lent
abbrev pub WritesVariable : List ℕ → List ℕ → List ℕ → List ℕ → List ℕ → List ℕ → ℕ → ℕ → List ℕ → List ℕ → ℕ → ℕ → Type 0
WritesVariable sorts variables members names ws ts row value before after place r =
    OfVariables (λ l. LaysVariable l ws ts row value before after place r) sorts variables members names

abbrev pub WritesBody : List ℕ → List ℕ → List ℕ → List ℕ → List ℕ → List ℕ → ℕ → ℕ → ℕ → ℕ → List ℕ → List ℕ → ℕ → ℕ → Type 0
WritesBody sorts functions members names ws ts row offset long body before after place r =
    OfFunctions (λ l. LaysBody l ws ts row offset long body before after place r) sorts functions members names

abbrev pub WritesFunction : List ℕ → List ℕ → List ℕ → List ℕ → List ℕ → List ℕ → ℕ → ℕ → List ℕ → List ℕ → ℕ → ℕ → Type 0
WritesFunction sorts functions members names ws ts row node before after place r =
    OfFunctions (λ l. LaysFunction l ws ts row node before after place r) sorts functions members names

abbrev pub WritesEntry : List ℕ → List ℕ → List ℕ → List ℕ → List ℕ → List ℕ → List ℕ → List ℕ → ℕ → List ℕ → List ℕ → ℕ → ℕ → Type 0
WritesEntry sorts variables functions members names ws ts last slot before after place r =
    OfBoth (λ l. LaysEntry l ws ts last slot before after place r) sorts variables functions members names

abbrev pub WritesEntries : List ℕ → List ℕ → List ℕ → List ℕ → List ℕ → List ℕ → List ℕ → List ℕ → List ℕ → List ℕ → ℕ → ℕ → Type 0
WritesEntries sorts variables functions members names ws ts last before after place r =
    OfBoth (λ l. LaysEntries l ws ts last before after place r) sorts variables functions members names
