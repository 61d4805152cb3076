-- Document 01, "Sorts and literals": what the calls that read a sort answer, whatever is lent beside.
use Rattle.std.specs.Prelude.{◌≡◌, List, ℕ, Err, Ok, Result}
use Rattle.arena.specs.Tree.{Tree}
use Rattle.tables.specs.declared.sort.Wanted.{Wanted}
use Rattle.tables.specs.Layout.{Lent, tables_of}
use Rattle.tables.specs.View.{sort_wanted}
use Rattle.shapes.specs.Shows.{Standing}
use Rattle.sorts.specs.Sort.{row_of, sort_word, sort_width, read_sort}
use Rattle.refusals.specs.declared.Refusal.{Refusal}

abbrev pub sorted : Result ℕ Refusal → Result ℕ Refusal
sorted (Ok row) = Ok row
sorted (Err r) = Err r

abbrev pub RowOf : List ℕ → Wanted → Result ℕ Refusal → Type 0
RowOf sorts wanted r = (l : Lent) → l.sorts ≡ sorts → r ≡ sorted (row_of (tables_of l) (sort_wanted wanted))

abbrev pub WordSort : List ℕ → List ℕ → List ℕ → Result ℕ Refusal → Type 0
WordSort sorts names name r = (l : Lent) → l.sorts ≡ sorts → l.names ≡ names → r ≡ sorted (sort_word (tables_of l) name)

abbrev pub WidthSort : List ℕ → ℕ → Result ℕ Refusal → Type 0
WidthSort sorts width r = (l : Lent) → l.sorts ≡ sorts → r ≡ sorted (sort_width (tables_of l) width)

-- the tree that stands at the node, read with so many levels
abbrev pub ReadsSort : List ℕ → List ℕ → List ℕ → List ℕ → ℕ → ℕ → Result ℕ Refusal → Type 0
ReadsSort sorts names ws ts i allow r =
    (l : Lent) → l.sorts ≡ sorts → l.names ≡ names → (t : Tree) → Standing t ws ts i → r ≡ sorted (read_sort (tables_of l) allow t)
