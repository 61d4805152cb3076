-- Document 01, "Sorts and literals", as words: five a row, in each table. Words 0 and 1 are where the row's name begins in the
-- name bytes and how long it is; a member's words 3 and 4 are its text's; a record's words 3 and 4 are where its fields begin in
-- the list of fields and how many they are. Words that a row does not need are not looked at.
use Rattle.std.specs.Prelude.{Bool, true, cond, ◌&&◌, List, ℕ, ◌+◌, ◌*◌, ◌/◌, ◌%◌, leb, eqb, length, get_or, take, drop}
use Rattle.ground.specs.Lists.{tabulate, all}
use Rattle.tables.specs.Sort.{decimal, datetime, duration, Sort, bool, string, ext, bit_vec, option_of, set_of, entity_of, record_of, Variable, Function, Member, Tables}

-- how many words a row has
abbrev pub stride : ℕ
stride = 5

-- what is lent: four tables, the list of fields, the name bytes
pub record Lent : Type 0 where
  pub sorts : List ℕ
  pub fields : List ℕ
  pub variables : List ℕ
  pub functions : List ℕ
  pub members : List ℕ
  pub names : List ℕ

-- the rows of a table; a row that is not whole is none
abbrev pub count : List ℕ → ℕ
count ws = length ws / stride

-- word k of row i
abbrev pub word : List ℕ → ℕ → ℕ → ℕ
word ws i k = get_or ws (i * stride + k) 0

-- so many entries of a list from one on, as far as it goes
abbrev pub part : List ℕ → ℕ → ℕ → List ℕ
part xs first size = take size (drop first xs)

abbrev pub name_at : List ℕ → List ℕ → ℕ → List ℕ
name_at names ws i = part names (word ws i 0) (word ws i 1)

-- the kinds of sorts by their numbers, 1 to 10
abbrev pub last_kind : ℕ
last_kind = 10

abbrev pub sort_of : ℕ → List ℕ → ℕ → List ℕ → Sort
sort_of kind name number fields =
    cond (eqb kind 1) bool
    (cond (eqb kind 2) string
    (cond (eqb kind 3) (ext decimal)
    (cond (eqb kind 4) (ext datetime)
    (cond (eqb kind 5) (ext duration)
    (cond (eqb kind 6) (bit_vec number)
    (cond (eqb kind 7) (option_of number)
    (cond (eqb kind 8) (set_of number)
    (cond (eqb kind 9) (entity_of name)
    (record_of name fields)))))))))

-- what the rows say, on any words
abbrev pub sort_at : Lent → ℕ → Sort
sort_at l i = sort_of (word l.sorts i 2) (name_at l.names l.sorts i) (word l.sorts i 3) (part l.fields (word l.sorts i 3) (word l.sorts i 4))

abbrev pub variable_at : Lent → ℕ → Variable
variable_at l i = record { name = name_at l.names l.variables i; sort = word l.variables i 2 }

abbrev pub function_at : Lent → ℕ → Function
function_at l i = record { name = name_at l.names l.functions i; argument = word l.functions i 2; result = word l.functions i 3 }

abbrev pub member_at : Lent → ℕ → Member
member_at l i = record { name = name_at l.names l.members i; entity = word l.members i 2; text = part l.names (word l.members i 3) (word l.members i 4) }

unfoldable pub tables_of : Lent → Tables
tables_of l = record {
  sorts = tabulate (sort_at l) 0 (count l.sorts);
  variables = tabulate (variable_at l) 0 (count l.variables);
  functions = tabulate (function_at l) 0 (count l.functions);
  members = tabulate (member_at l) 0 (count l.members);
}

-- the form itself: rows are whole, kinds are known, and names, texts and fields lie inside what was lent
abbrev pub whole : List ℕ → Bool
whole ws = eqb (length ws % stride) 0

abbrev pub inside : ℕ → ℕ → List ℕ → Bool
inside first size xs = leb (first + size) (length xs)

abbrev pub name_inside : List ℕ → List ℕ → ℕ → Bool
name_inside names ws i = inside (word ws i 0) (word ws i 1) names

abbrev pub sort_formed : Lent → ℕ → Bool
sort_formed l i =
    leb 1 (word l.sorts i 2) && leb (word l.sorts i 2) last_kind
    && cond (leb 9 (word l.sorts i 2)) (name_inside l.names l.sorts i) true
    && cond (eqb (word l.sorts i 2) last_kind) (inside (word l.sorts i 3) (word l.sorts i 4) l.fields) true

abbrev pub member_formed : Lent → ℕ → Bool
member_formed l i = name_inside l.names l.members i && inside (word l.members i 3) (word l.members i 4) l.names

-- a test passes at each row
abbrev pub rows : (ℕ → Bool) → List ℕ → Bool
rows test ws = whole ws && all (λ b. b) (tabulate test 0 (count ws))

unfoldable pub formed : Lent → Bool
formed l =
    rows (sort_formed l) l.sorts
    && rows (name_inside l.names l.variables) l.variables
    && rows (name_inside l.names l.functions) l.functions
    && rows (member_formed l) l.members
