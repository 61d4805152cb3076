-- Document 01, "Numbers given back", as the reader goes about it: the answer is told by the rows that were found and the buffers'
-- lengths alone, and then the words at the fronts of the rows' rooms are stored by it.
use Rattle.std.specs.Prelude.{◌≡◌, cond, ℕ, ◌≤◌, leb, length, take, Err, None, Ok, Option, Result, Some}
use Rattle.refusals.specs.declared.Refusal.TheVariants.{BadTable, OutRoom}
use Rattle.lent.specs.Left.{onto}
use Rattle.tables_text.specs.Read.{Buffers}
use Rattle.refusals.specs.declared.Refusal.{Refusal}
use Rattle.tables_text.specs.declared.parse.Counts.{Counts}

abbrev pub short : ℕ → ℕ → Result Counts Refusal → Result Counts Refusal
short need room rest = cond (leb need room) rest (Err (OutRoom need))

unfoldable pub first_short : (i j k m n sorts fields variables functions members : ℕ) → Result Counts Refusal
first_short i j k m n sorts fields variables functions members =
    short i sorts (short j fields (short k variables (short m functions (short n members (Ok (record { sorts = i; fields = j; variables = k; functions = m; members = n }))))))

abbrev pub answer_told : (sorts fields variables functions members : ℕ) → Option Counts → Result Counts Refusal
answer_told sorts fields variables functions members None = Err BadTable
answer_told sorts fields variables functions members (Some it) = first_short it.sorts it.fields it.variables it.functions it.members sorts fields variables functions members

-- so many words of each
pub record Within (i j k m n : ℕ) (rooms : Buffers) : Type 0 where
  pub sorts : i ≤ length rooms.sorts
  pub fields : j ≤ length rooms.fields
  pub variables : k ≤ length rooms.variables
  pub functions : m ≤ length rooms.functions
  pub members : n ≤ length rooms.members

pub record Storable (answer : Result Counts Refusal) (rows entry : Buffers) : Type 0 where
  pub held : (i j k m n : ℕ) → answer ≡ Ok (record { sorts = i; fields = j; variables = k; functions = m; members = n }) → Within i j k m n rows
  pub room : (i j k m n : ℕ) → answer ≡ Ok (record { sorts = i; fields = j; variables = k; functions = m; members = n }) → Within i j k m n entry

abbrev pub stored_by : Buffers → Buffers → Result Counts Refusal → Buffers
stored_by rows entry (Err why) = entry
stored_by rows entry (Ok it) = record {
  sorts = onto (take it.sorts rows.sorts) entry.sorts;
  fields = onto (take it.fields rows.fields) entry.fields;
  variables = onto (take it.variables rows.variables) entry.variables;
  functions = onto (take it.functions rows.functions) entry.functions;
  members = onto (take it.members rows.members) entry.members;
}

pub record Stored (answer : Result Counts Refusal) (rows entry : Buffers) (r : Result Counts Refusal) (exit : Buffers) : Type 0 where
  pub answers : r ≡ answer
  pub holds : exit ≡ stored_by rows entry answer
