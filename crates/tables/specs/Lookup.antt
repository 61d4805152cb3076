-- Document 01, "Sorts and literals" and "The model walk": what a call answers that looks a name or a sort up, whatever is lent beside.
use Rattle.std.specs.Prelude.{◌≡◌, Bool, false, List, ℕ, Option}
use Rattle.arena.specs.Text.{same_text}
use Rattle.tables.specs.Layout.{Lent, name_at, tables_of}
use Rattle.tables.specs.Sort.{Sort}
use Rattle.tables.specs.Find.{found, sort_row, named_sort, variable_row, function_row, member_row}

-- a quick answer to whether row i has the name: no only where it has not
abbrev pub MayBeNamed : List ℕ → List ℕ → List ℕ → ℕ → Bool → Type 0
MayBeNamed ws names name i r = r ≡ false → same_text name (name_at names ws i) ≡ false

abbrev pub FindsVariable : List ℕ → List ℕ → List ℕ → Option ℕ → Type 0
FindsVariable variables names name r =
    (l : Lent) → l.variables ≡ variables → l.names ≡ names → r ≡ found (variable_row (tables_of l) name)

abbrev pub FindsFunction : List ℕ → List ℕ → List ℕ → Option ℕ → Type 0
FindsFunction functions names name r =
    (l : Lent) → l.functions ≡ functions → l.names ≡ names → r ≡ found (function_row (tables_of l) name)

abbrev pub FindsMember : List ℕ → List ℕ → List ℕ → Option ℕ → Type 0
FindsMember members names name r =
    (l : Lent) → l.members ≡ members → l.names ≡ names → r ≡ found (member_row (tables_of l) name)

abbrev pub FindsSort : List ℕ → Sort → Option ℕ → Type 0
FindsSort sorts s r = (l : Lent) → l.sorts ≡ sorts → r ≡ found (sort_row (tables_of l) s)

abbrev pub FindsNamed : List ℕ → List ℕ → List ℕ → Option ℕ → Type 0
FindsNamed sorts names name r =
    (l : Lent) → l.sorts ≡ sorts → l.names ≡ names → r ≡ found (named_sort (tables_of l) name)
