-- Document 01, "Sorts and literals": a sort without a name, asked for by the kind and the number that its row would have.
use Rattle.std.specs.Prelude.{◌≡◌, cond, ◌&&◌, List, [], ℕ, leb, None, Option}
use Rattle.tables.specs.Layout.{Lent, tables_of, sort_of}
use Rattle.tables.specs.Find.{found, sort_row}

-- the row of the sort, whatever is lent beside; kinds 1 to 8 have no name, and for any other number no row is found
abbrev pub FindsKind : List ℕ → ℕ → ℕ → Option ℕ → Type 0
FindsKind sorts kind number r =
    (l : Lent) → l.sorts ≡ sorts → r ≡ found (cond (leb 1 kind && leb kind 8) (sort_row (tables_of l) (sort_of kind [] number [])) None)
