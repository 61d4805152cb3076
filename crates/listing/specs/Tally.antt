-- Document 01, "The listing", the counts and the need: how many names are defined, and how long their lines are with repeats kept.
use Rattle.std.specs.Prelude.{◌≡◌, List, ℕ, ◌+◌, ◌^◌, ◌≤◌, ◌<◌, length, None, Option, Some}
use Rattle.decimals.specs.Decimal.{digit_count}
use Rattle.tables.specs.Layout.{Lent, word, name_at, tables_of}
use Rattle.model.specs.Model.{Definition, is_variable, is_function}
use Rattle.model.specs.Listing.{variable_count, function_count}
use Rattle.walk.specs.Last.{slots, last_in}
use Rattle.walk.specs.Placed.{Placed, its}
use Rattle.listing.specs.declared.tally.Tally.{Tally}
use Rattle.listing.specs.Grounds.{Known}
use Rattle.listing.specs.Entries.{entry_in, entries, OfBoth}

-- how long a row's lines are, where its value or its table's lines are so long
abbrev pub variable_size : List ℕ → List ℕ → ℕ → ℕ → ℕ
variable_size names variables row long = length (name_at names variables row) + digit_count (word variables row 2) + 18 + long

abbrev pub function_size : List ℕ → List ℕ → ℕ → ℕ → ℕ
function_size names functions row long = length (name_at names functions row) + digit_count (word functions row 2) + digit_count (word functions row 3) + 15 + long

-- what a slot counts for
abbrev pub variable_one : Definition → ℕ
variable_one (is_variable i v) = 1
variable_one (is_function i t) = 0

abbrev pub function_one : Definition → ℕ
function_one (is_variable i v) = 0
function_one (is_function i t) = 1

abbrev pub one_in : (Definition → ℕ) → Option Placed → ℕ
one_in one None = 0
one_in one (Some p) = one p.it

-- one slot more, where no word overflows
pub record Small (s : Tally) : Type 0 where
  pub variables : s.variables ≤ slots
  pub functions : s.functions ≤ slots
  pub need : s.need ≤ 2 ^ 60

pub record Added (l : Lent) (o : Option Placed) (s r : Tally) : Type 0 where
  pub variables : r.variables ≡ s.variables + one_in variable_one o
  pub functions : r.functions ≡ s.functions + one_in function_one o
  pub need : r.need ≡ s.need + length (entry_in l o)

-- all of them
pub record Tallied (l : Lent) (ds : List Definition) (r : Tally) : Type 0 where
  pub variables : r.variables ≡ variable_count ds 0 (tables_of l).variables
  pub functions : r.functions ≡ function_count ds 0 (tables_of l).functions
  pub need : r.need ≡ length (entries l ds)
  pub small : r.need ≤ 2 ^ 60

-- the same of what is lent, by what is noted
abbrev pub AddsEntry : List ℕ → List ℕ → List ℕ → List ℕ → ℕ → Tally → Tally → Type 0
AddsEntry variables functions names last slot s r =
    (sorts members ws ts : List ℕ) → OfBoth (λ l. (ps : List Placed) → Known l ws ts last ps → slot < slots → Small s → Added l (last_in l slot ps) s r) sorts variables functions members names

abbrev pub Tallies : List ℕ → List ℕ → List ℕ → List ℕ → Tally → Type 0
Tallies variables functions names last r =
    (sorts members ws ts : List ℕ) → OfBoth (λ l. (ps : List Placed) → Known l ws ts last ps → Tallied l (its ps) r) sorts variables functions members names
