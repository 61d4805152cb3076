-- Document 01, "The listing", the tables' text form, and the tables crate's rows: the words of the rows whose names stand in the text.
use Rattle.std.specs.Prelude.{List, [], ◌∷◌, ◌++◌, ℕ, ◌+◌, length}
use Rattle.decimals.specs.Decimal.{decimal}
use Rattle.tables.specs.Sort.{Sort, bool, string, ext, bit_vec, option_of, set_of, entity_of, record_of, Variable, Function, Member, Tables}
use Rattle.tables.specs.Layout.{Lent}
use Rattle.tables.specs.Rules.{ext_kind}
use Rattle.tables_text.specs.Line.{sort_line, variable_line, function_line, member_line, lines}

abbrev pub row_words : ℕ → ℕ → ℕ → ℕ → ℕ → List ℕ
row_words a b c d e = a ∷ b ∷ c ∷ d ∷ e ∷ []

-- a sort's line begins at `at`, and the rows before it have `before` fields; `sort=entity ` and `sort=record ` are 12 bytes
abbrev pub sort_words : ℕ → ℕ → Sort → List ℕ
sort_words at before bool = row_words 0 0 1 0 0
sort_words at before string = row_words 0 0 2 0 0
sort_words at before (ext e) = row_words 0 0 (ext_kind e) 0 0
sort_words at before (bit_vec width) = row_words 0 0 6 width 0
sort_words at before (option_of row) = row_words 0 0 7 row 0
sort_words at before (set_of row) = row_words 0 0 8 row 0
sort_words at before (entity_of name) = row_words (at + 12) (length name) 9 0 0
sort_words at before (record_of name fields) = row_words (at + 12) (length name) 10 before (length fields)

abbrev pub fields_of : Sort → List ℕ
fields_of bool = []
fields_of string = []
fields_of (ext e) = []
fields_of (bit_vec width) = []
fields_of (option_of row) = []
fields_of (set_of row) = []
fields_of (entity_of name) = []
fields_of (record_of name fields) = fields

unfoldable pub all_fields : List Sort → List ℕ
all_fields [] = []
all_fields (s ∷ ss) = fields_of s ++ all_fields ss

unfoldable pub all_sort_words : ℕ → ℕ → List Sort → List ℕ
all_sort_words at before [] = []
all_sort_words at before (s ∷ ss) = sort_words at before s ++ all_sort_words (at + length (sort_line s)) (before + length (fields_of s)) ss

abbrev pub variable_words : ℕ → Variable → List ℕ
variable_words at v = row_words (at + 4) (length v.name) v.sort 0 0

abbrev pub function_words : ℕ → Function → List ℕ
function_words at f = row_words (at + 4) (length f.name) f.argument f.result 0

-- the text stands after the name, the row, and a space after each
abbrev pub member_words : ℕ → Member → List ℕ
member_words at m = row_words (at + 5) (length m.name) m.entity (at + 5 + length m.name + 1 + length (decimal m.entity) + 1) (length m.text)

-- the rows of a table whose first line begins at a place
unfoldable pub table_words {ℓ} : {A : Type ℓ} → (ℕ → A → List ℕ) → (A → List ℕ) → ℕ → List A → List ℕ
table_words words write at [] = []
table_words words write at (x ∷ xs) = words at x ++ table_words words write (at + length (write x)) xs

-- where each kind's lines begin
abbrev pub variables_at : Tables → ℕ
variables_at t = length (lines sort_line t.sorts)

abbrev pub functions_at : Tables → ℕ
functions_at t = variables_at t + length (lines variable_line t.variables)

abbrev pub members_at : Tables → ℕ
members_at t = functions_at t + length (lines function_line t.functions)

-- the tables as words over their own text
unfoldable pub laid : Tables → List ℕ → Lent
laid t text = record {
  sorts = all_sort_words 0 0 t.sorts;
  fields = all_fields t.sorts;
  variables = table_words variable_words variable_line (variables_at t) t.variables;
  functions = table_words function_words function_line (functions_at t) t.functions;
  members = table_words member_words member_line (members_at t) t.members;
  names = text;
}
