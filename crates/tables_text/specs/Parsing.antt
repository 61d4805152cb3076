-- What the walk of all lines of document 01's tables' text leaves in its rooms: the words of the tables that it spells.
use Rattle.std.specs.Prelude.{◌≡◌, cond, List, ℕ, ◌*◌, ◌≤◌, length, take, None, Option, Some}
use Rattle.tables.specs.Sort.{Tables}
use Rattle.tables.specs.Layout.{Lent, stride}
use Rattle.tables.specs.Rules.{row_limit}
use Rattle.tables.specs.Check.{passes}
use Rattle.tables_text.specs.Words.{laid}
use Rattle.tables_text.specs.Parse.{parse}
use Rattle.tables_text.specs.declared.parse.Counts.{Counts}

-- a room for each table, and fields enough: each takes at least two bytes of the text
pub record Rooms (text a b c d e : List ℕ) : Type 0 where
  pub sorts : row_limit * stride ≤ length a
  pub fields : length text ≤ length b * 2
  pub variables : row_limit * stride ≤ length c
  pub functions : row_limit * stride ≤ length d
  pub members : row_limit * stride ≤ length e

-- words that stand at the fronts of the rooms
pub record Held (l : Lent) (a b c d e : List ℕ) : Type 0 where
  pub sorts : take (length l.sorts) a ≡ l.sorts
  pub fields : take (length l.fields) b ≡ l.fields
  pub variables : take (length l.variables) c ≡ l.variables
  pub functions : take (length l.functions) d ≡ l.functions
  pub members : take (length l.members) e ≡ l.members

abbrev pub sizes : Lent → Option Counts
sizes l = (Some (record { sorts = length l.sorts; fields = length l.fields; variables = length l.variables; functions = length l.functions; members = length l.members }))

abbrev pub parsed_told : List ℕ → Option Tables → Option Counts
parsed_told text None = None
parsed_told text (Some t) = sizes (laid t text)

pub record Parses (text a b c d e : List ℕ) (r : Option Counts) : Type 0 where
  pub answers : r ≡ parsed_told text (parse text)
  pub holds : (t : Tables) → parse text ≡ Some t → Held (laid t text) a b c d e

-- the same of rows that break no rule
abbrev pub passing_told : List ℕ → Option Tables → Option Counts
passing_told text None = None
passing_told text (Some t) = cond (passes (laid t text)) (sizes (laid t text)) None

pub record Passing (text a b c d e : List ℕ) (r : Option Counts) : Type 0 where
  pub answers : r ≡ passing_told text (parse text)
  pub holds : (t : Tables) → parse text ≡ Some t → Held (laid t text) a b c d e
