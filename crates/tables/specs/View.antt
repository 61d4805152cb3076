-- Document 01, "Sorts and literals", as words: what a sort row says, and what tells it from the others.
use Rattle.std.specs.Prelude.{Bool, true, cond, ◌&&◌, ◌||◌, List, ℕ, leb, ltb, eqb, None, Option, Some}
use Rattle.arena.specs.Text.{same_text}
use Rattle.tables.specs.declared.sort.SortRow.{SortRow}
use Rattle.tables.specs.declared.sort.Wanted.{Wanted}
use Rattle.tables.specs.declared.sort.Key.{Key}
use Rattle.tables.specs.Sort.{decimal, datetime, duration, Sort, bool, string, ext, bit_vec, option_of, set_of, entity_of, record_of}
use Rattle.tables.specs.Layout.{Lent, count, word, part, name_at}

-- a kind, and words 3 and 4
abbrev pub sort_row_of : ℕ → ℕ → ℕ → SortRow
sort_row_of kind number size =
    cond (eqb kind 1) SortRow.Bool
    (cond (eqb kind 2) SortRow.String
    (cond (eqb kind 3) SortRow.Decimal
    (cond (eqb kind 4) SortRow.Datetime
    (cond (eqb kind 5) SortRow.Duration
    (cond (eqb kind 6) (SortRow.BitVec number)
    (cond (eqb kind 7) (SortRow.Option number)
    (cond (eqb kind 8) (SortRow.Set number)
    (cond (eqb kind 9) SortRow.Entity
    (SortRow.Record number size)))))))))

-- row i, where there is one
unfoldable pub sort_row_at : List ℕ → ℕ → SortRow
sort_row_at ws i = cond (ltb i (count ws)) (sort_row_of (word ws i 2) (word ws i 3) (word ws i 4)) SortRow.NoRow

-- the sort that row i stands for
abbrev pub meant : Lent → ℕ → SortRow → Option Sort
meant l i SortRow.Bool = Some bool
meant l i SortRow.String = Some string
meant l i SortRow.Decimal = Some (ext decimal)
meant l i SortRow.Datetime = Some (ext datetime)
meant l i SortRow.Duration = Some (ext duration)
meant l i (SortRow.BitVec width) = Some (bit_vec width)
meant l i (SortRow.Option row) = Some (option_of row)
meant l i (SortRow.Set row) = Some (set_of row)
meant l i SortRow.Entity = Some (entity_of (name_at l.names l.sorts i))
meant l i (SortRow.Record first size) = Some (record_of (name_at l.names l.sorts i) (part l.fields first size))
meant l i SortRow.NoRow = None

-- a sort without a name, its kind and its number
abbrev pub sort_wanted : Wanted → Sort
sort_wanted Wanted.Bool = bool
sort_wanted Wanted.String = string
sort_wanted Wanted.Decimal = ext decimal
sort_wanted Wanted.Datetime = ext datetime
sort_wanted Wanted.Duration = ext duration
sort_wanted (Wanted.BitVec width) = bit_vec width
sort_wanted (Wanted.Option row) = option_of row
sort_wanted (Wanted.Set row) = set_of row

abbrev pub key_of : Wanted → Key
key_of Wanted.Bool = record { kind = 1; number = 0 }
key_of Wanted.String = record { kind = 2; number = 0 }
key_of Wanted.Decimal = record { kind = 3; number = 0 }
key_of Wanted.Datetime = record { kind = 4; number = 0 }
key_of Wanted.Duration = record { kind = 5; number = 0 }
key_of (Wanted.BitVec width) = record { kind = 6; number = width }
key_of (Wanted.Option row) = record { kind = 7; number = row }
key_of (Wanted.Set row) = record { kind = 8; number = row }

-- row i is of the kind, and has the number where the kind has one
abbrev pub is_kind : List ℕ → ℕ → ℕ → ℕ → Bool
is_kind ws kind number i = eqb (word ws i 2) kind && cond (ltb kind 6) true (eqb (word ws i 3) number)

-- entities, and what is read as a record
abbrev pub has_name : ℕ → Bool
has_name kind = eqb kind 0 || leb 9 kind

abbrev pub is_named : List ℕ → List ℕ → List ℕ → ℕ → Bool
is_named ws names name i = has_name (word ws i 2) && same_text name (name_at names ws i)
