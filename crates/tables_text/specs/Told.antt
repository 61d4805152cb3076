-- What the walk of document 01's tables' text answers at each line, by what the line spells.
use Rattle.std.specs.Prelude.{◌≡◌, List, ◌++◌, ℕ, ◌+◌, ◌*◌, ◌≤◌, ◌<◌, length, take, None, Option, Some}
use Rattle.std.proofs.lemmas.List.Edits.{sets}
use Rattle.tables.specs.Sort.{Sort, bool, string, ext, bit_vec, option_of, set_of, entity_of, record_of, Variable, Function, Member}
use Rattle.tables.specs.Layout.{stride}
use Rattle.tables.specs.Rules.{ext_kind}
use Rattle.tables_text.specs.declared.sort.SortLine.{SortLine}
use Rattle.tables_text.specs.declared.sort.SortLine.TheVariants as sort
use Rattle.tables_text.specs.declared.walk.Walk.{Walk}
use Rattle.tables_text.specs.declared.sorts.SortWalk.{SortWalk}
use Rattle.tables_text.specs.Line.{sort_line, lines}
use Rattle.tables_text.specs.Words.{sort_words, fields_of, all_fields, all_sort_words, table_words}
use Rattle.tables_text.specs.Parse.{Led, numeral, record_in, Walked}
use Rattle.tables_text.specs.declared.row.Before.{Before}
use Rattle.tables_text.specs.declared.row.FunctionLine.{FunctionLine}
use Rattle.tables_text.specs.declared.row.MemberLine.{MemberLine}
use Rattle.tables_text.specs.declared.row.VariableLine.{VariableLine}
use Rattle.tables_text.specs.declared.sort.RecordLine.{RecordLine}
use Rattle.tables_text.specs.declared.sorts.SortNext.{SortNext}

abbrev pub number_told : Option ℕ → Option ℕ
number_told None = None
number_told (Some n) = Some n

-- a number that a space ends, in what begins at a place
abbrev pub before_told : ℕ → Option Led → Option Before
before_told at None = None
before_told at (Some d) = (Some (record { number = d.number; next = at + length d.word + 1 }))

abbrev pub variable_told : Option Variable → Option VariableLine
variable_told None = None
variable_told (Some v) = (Some (record { name = length v.name; sort = v.sort }))

abbrev pub function_told : Option Function → Option FunctionLine
function_told None = None
function_told (Some f) = (Some (record { name = length f.name; argument = f.argument; result = f.result }))

abbrev pub member_told : Option Member → Option MemberLine
member_told None = None
member_told (Some m) = (Some (record { name = length m.name; entity = m.entity; text = length m.text }))

abbrev pub form_told : Option Sort → SortLine
form_told None = sort.Other
form_told (Some bool) = sort.Plain 1 0
form_told (Some string) = sort.Plain 2 0
form_told (Some (ext e)) = sort.Plain (ext_kind e) 0
form_told (Some (bit_vec width)) = sort.Plain 6 width
form_told (Some (option_of row)) = sort.Plain 7 row
form_told (Some (set_of row)) = sort.Plain 8 row
form_told (Some (entity_of name)) = sort.Entity
form_told (Some (record_of name fields)) = sort.Record

abbrev pub plain_told : ℕ → Option ℕ → SortLine
plain_told kind None = sort.Other
plain_told kind (Some n) = sort.Plain kind n

abbrev pub numbered_told : ℕ → List ℕ → SortLine
numbered_told kind s = plain_told kind (numeral s)

abbrev pub record_told : Option Sort → Option RecordLine
record_told None = None
record_told (Some bool) = None
record_told (Some string) = None
record_told (Some (ext e)) = None
record_told (Some (bit_vec width)) = None
record_told (Some (option_of n)) = None
record_told (Some (set_of n)) = None
record_told (Some (entity_of name)) = None
record_told (Some (record_of name fields)) = (Some (record { name = length name; count = length fields }))

-- the fields that a record's line has stand behind those that were there
pub record FieldsPut (before : ℕ) (s entry exit : List ℕ) (r : Option RecordLine) : Type 0 where
  pub answers : r ≡ record_told (record_in s)
  pub stay : take before exit ≡ take before entry
  pub holds : (name rows : List ℕ) → record_in s ≡ Some (record_of name rows) → take (before + length rows) exit ≡ take before entry ++ rows

-- a line that is a row: where the next begins, and its words in the table
module _ {A : Type 0} (write : A → List ℕ) (words : ℕ → A → List ℕ) where
  abbrev pub line_told : ℕ → Option A → Option ℕ
  line_told at None = None
  line_told at (Some x) = Some (at + length (write x))

  abbrev pub line_held : ℕ → ℕ → List ℕ → Option A → List ℕ
  line_held at row entry None = entry
  line_held at row entry (Some x) = sets entry (row * stride) (words at x)

  pub record Lined (at row : ℕ) (found : Option A) (entry exit : List ℕ) (r : Option ℕ) : Type 0 where
    pub answers : r ≡ line_told at found
    pub holds : exit ≡ line_held at row entry found

  -- all rows of a kind
  pub record WalkedTo (start : ℕ) (w : Walked A) (exit : List ℕ) (r : Walk) : Type 0 where
    pub counts : r.rows ≡ length w.rows
    pub ends : r.at ≡ start + length (lines write w.rows)
    pub holds : take (r.rows * stride) exit ≡ table_words words write start w.rows

-- the same of sorts, whose fields stand in a list of their own
abbrev pub sort_told : ℕ → ℕ → Option Sort → Option SortNext
sort_told at before None = None
sort_told at before (Some x) = (Some (record { at = at + length (sort_line x); fields = before + length (fields_of x) }))

abbrev pub sort_held : ℕ → ℕ → ℕ → List ℕ → Option Sort → List ℕ
sort_held at row before entry None = entry
sort_held at row before entry (Some x) = sets entry (row * stride) (sort_words at before x)

pub record FineSort (text : List ℕ) (at : ℕ) (table : List ℕ) (row : ℕ) (fields : List ℕ) (before : ℕ) : Type 0 where
  pub within : at ≤ length text
  pub room : row * stride + stride ≤ length table
  pub few : before * 2 ≤ at
  pub ample : length text ≤ length fields * 2

-- a line that starts as a record's does
pub record FineRecord (text : List ℕ) (at end : ℕ) (table : List ℕ) (row : ℕ) (fields : List ℕ) (before : ℕ) : Type 0 where
  pub fine : FineSort text at table row fields before
  pub starts : at + 12 ≤ end
  pub ends : end < length text

pub record SortLined (at row before : ℕ) (found : Option Sort) (entry exit fields_entry fields_exit : List ℕ) (r : Option SortNext) : Type 0 where
  pub answers : r ≡ sort_told at before found
  pub holds : exit ≡ sort_held at row before entry found
  pub stay : take before fields_exit ≡ take before fields_entry
  pub fields : (x : Sort) → found ≡ Some x → take (before + length (fields_of x)) fields_exit ≡ take before fields_entry ++ fields_of x

pub record SortsWalked (w : Walked Sort) (table fields : List ℕ) (r : SortWalk) : Type 0 where
  pub counts : r.rows ≡ length w.rows
  pub ends : r.at ≡ length (lines sort_line w.rows)
  pub sums : r.fields ≡ length (all_fields w.rows)
  pub holds : take (r.rows * stride) table ≡ all_sort_words 0 0 w.rows
  pub lists : take r.fields fields ≡ all_fields w.rows
