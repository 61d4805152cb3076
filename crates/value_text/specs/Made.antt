-- Document 01, "Sorts and literals": a name is an entity's or a record's, by the sort of its row.
use Rattle.std.specs.Prelude.{◌≡◌, List, ℕ, Some}
use Rattle.ground.specs.Lists.{at}
use Rattle.tables.specs.Find.{named_sort}
use Rattle.tables.specs.Layout.{Lent, tables_of}
use Rattle.tables.specs.Sort.{entity_of, record_of, Tables}
use Rattle.value_text.specs.declared.made.Made.{Made}

-- what a row's sort is, where the row is a name's
abbrev pub RowIs : Tables → ℕ → Made → Type 0
RowIs T row (Made.Entity q) = (q ≡ row) × ((name : List ℕ) × (at T.sorts row ≡ Some (entity_of name)))
RowIs T row (Made.Record q) = (q ≡ row) × ((name : List ℕ) × ((fields : List ℕ) × (at T.sorts row ≡ Some (record_of name fields))))
RowIs T row Made.NoName = (name : List ℕ) → named_sort T name ≡ Some row → ⊥

abbrev pub MadeRow : List ℕ → ℕ → Made → Type 0
MadeRow sorts row r = (l : Lent) → l.sorts ≡ sorts → RowIs (tables_of l) row r

abbrev pub MadeOf : List ℕ → List ℕ → List ℕ → Made → Type 0
MadeOf sorts names name r =
    (l : Lent) → l.sorts ≡ sorts → l.names ≡ names → (row : ℕ) → named_sort (tables_of l) name ≡ Some row → RowIs (tables_of l) row r
