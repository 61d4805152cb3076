-- Document 01, "Sorts and literals": 25 exactly when a rule is broken.
use Rattle.std.specs.Prelude.{Bool, true, false, not, ◌&&◌, List, [], ◌∷◌, ℕ, suc, leb, ltb, length, None, Option, Some}
use Rattle.ground.specs.Lists.{all, at, distinct}
use Rattle.utf8.specs.Octets.{utf8}
use Rattle.lexicon.specs.Symbol.{one_symbol}
use Rattle.arena.specs.Text.{same_text}
use Rattle.tables.specs.Sort.{Ext, decimal, datetime, duration, Sort, bool, string, ext, bit_vec, option_of, set_of, entity_of, record_of, Variable, Function, Member, Tables}
use Rattle.tables.specs.Kept.{kept}

abbrev pub row_limit : ℕ
row_limit = 1024

abbrev pub name_limit : ℕ
name_limit = 65536

abbrev pub field_limit : ℕ
field_limit = 256

abbrev pub width_limit : ℕ
width_limit = 128

-- what the lexer would give as one symbol
abbrev pub name_right : List ℕ → Bool
name_right name = leb (length name) name_limit && one_symbol name

-- of a sort or an enum member
abbrev pub own_name : List ℕ → Bool
own_name name = name_right name && not (kept name)

-- row i refers to lower rows only
abbrev pub sort_right : ℕ → Sort → Bool
sort_right i bool = true
sort_right i string = true
sort_right i (ext e) = true
sort_right i (bit_vec width) = leb 1 width && leb width width_limit
sort_right i (option_of row) = ltb row i
sort_right i (set_of row) = ltb row i
sort_right i (entity_of name) = own_name name
sort_right i (record_of name fields) = own_name name && leb (length fields) field_limit && all (λ row. ltb row i) fields

unfoldable pub sorts_right : ℕ → List Sort → Bool
sorts_right i [] = true
sorts_right i (s ∷ ss) = sort_right i s && sorts_right (suc i) ss

-- what tells a row from the others: its kind and number, or its name; entity and record rows share one set of names
abbrev pub ext_kind : Ext → ℕ
ext_kind decimal = 3
ext_kind datetime = 4
ext_kind duration = 5

abbrev pub identity : Sort → List ℕ
identity bool = 1 ∷ []
identity string = 2 ∷ []
identity (ext e) = ext_kind e ∷ []
identity (bit_vec width) = 6 ∷ width ∷ []
identity (option_of row) = 7 ∷ row ∷ []
identity (set_of row) = 8 ∷ row ∷ []
identity (entity_of name) = 9 ∷ name
identity (record_of name fields) = 9 ∷ name

abbrev pub same_sort : Sort → Sort → Bool
same_sort a b = same_text (identity a) (identity b)

-- rows of a table refer to the sort rows that are there
abbrev pub present : Tables → ℕ → Bool
present t row = ltb row (length t.sorts)

abbrev pub variable_right : Tables → Variable → Bool
variable_right t v = name_right v.name && present t v.sort

abbrev pub function_right : Tables → Function → Bool
function_right t f = name_right f.name && present t f.argument && present t f.result

-- the row is an entity's
abbrev pub is_entity : Option Sort → Bool
is_entity None = false
is_entity (Some bool) = false
is_entity (Some string) = false
is_entity (Some (ext e)) = false
is_entity (Some (bit_vec width)) = false
is_entity (Some (option_of row)) = false
is_entity (Some (set_of row)) = false
is_entity (Some (entity_of name)) = true
is_entity (Some (record_of name fields)) = false

abbrev pub member_right : Tables → Member → Bool
member_right t m = own_name m.name && is_entity (at t.sorts m.entity) && leb (length m.text) name_limit && utf8 m.text

-- at most so many rows, each right, no two the same
abbrev pub table {ℓ} : {A : Type ℓ} → (A → Bool) → (A → A → Bool) → List A → Bool
table right same rows = leb (length rows) row_limit && all right rows && distinct same rows

unfoldable pub lawful : Tables → Bool
lawful t =
    leb (length t.sorts) row_limit && sorts_right 0 t.sorts && distinct same_sort t.sorts
    && table (variable_right t) (λ v w. same_text v.name w.name) t.variables
    && table (function_right t) (λ f g. same_text f.name g.name) t.functions
    && table (member_right t) (λ m n. same_text m.name n.name) t.members
