-- Document 01, "The listing": what is left where a function's table is written: arms ascending by the bytes of the key's text, a later arm
-- with an equal key in place of an earlier one, and the default, in the room of the arms as they were written.
use Rattle.std.specs.Prelude.{◌≡◌, List, ◌++◌, ℕ, Ok}
use Rattle.arena.specs.Tree.{Tree}
use Rattle.tables.specs.Layout.{Lent, tables_of}
use Rattle.shapes.specs.Shows.{Standing, Reads}
use Rattle.sorts.specs.Sort.{levels}
use Rattle.values.specs.Normal.{normal}
use Rattle.values.specs.Text.{text}
use Rattle.value_text.specs.Laid.{Lays}
use Rattle.value_text.specs.Value.{Given, ReadAt}
use Rattle.model.specs.Model.{Table, read_body}
use Rattle.model.specs.Listing.{line, arm_lines, settled_table}
use Rattle.demand.specs.Fits.{TableFits}

abbrev pub table_lines : Table → List ℕ
table_lines t = arm_lines t.arms ++ line "else" (text t.«else»)

-- the body at a node, of the argument whose text is told
abbrev pub WritesTable : List ℕ → List ℕ → List ℕ → List ℕ → List ℕ → ℕ → ℕ → ℕ → List ℕ → List ℕ → ℕ → ℕ → Type 0
WritesTable sorts members names ws ts offset long body entry exit place r =
    (l : Lent) → Given sorts members names l → (x : List ℕ) (t : Tree) (argument result : ℕ) (table : Table) → Reads x ts offset long → Standing t ws ts body →
    read_body (tables_of l) x argument result t ≡ Ok table → TableFits (tables_of l) argument result table →
    Lays (table_lines table) (table_lines (settled_table table)) entry exit place r

-- the last line, of the value that is read at a node
abbrev pub WritesElse : List ℕ → List ℕ → List ℕ → List ℕ → List ℕ → ℕ → List ℕ → List ℕ → ℕ → ℕ → Type 0
WritesElse sorts members names ws ts i entry exit place r =
    ReadAt sorts members names ws ts i levels (λ v. Lays (line "else" (text v)) (line "else" (text (normal v))) entry exit place r)
