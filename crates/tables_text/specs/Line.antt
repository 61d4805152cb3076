-- Document 01, "The listing", the tables' text form: a line a row, in this order of kinds.
use Rattle.std.specs.Prelude.{Bool, not, List, [], ◌∷◌, ◌++◌, map, ℕ, eqb}
use Rattle.ground.specs.Bytes.{bytes}
use Rattle.ground.specs.Lists.{joined, any, all}
use Rattle.decimals.specs.Decimal.{decimal}
use Rattle.tables.specs.Sort as Sort
use Rattle.tables.specs.Sort.{Ext, Sort, bool, string, ext, bit_vec, option_of, set_of, entity_of, record_of, Variable, Function, Member, Tables}

-- fields with one space between two, and a line feed
abbrev pub line : List ℕ → List (List ℕ) → List ℕ
line key fields = key ++ (joined (bytes " ") fields ++ bytes "\n")

abbrev pub ext_word : Ext → List ℕ
ext_word Sort.decimal = bytes "decimal"
ext_word Sort.datetime = bytes "datetime"
ext_word Sort.duration = bytes "duration"

abbrev pub sort_fields : Sort → List (List ℕ)
sort_fields bool = bytes "bool" ∷ []
sort_fields string = bytes "string" ∷ []
sort_fields (ext e) = ext_word e ∷ []
sort_fields (bit_vec width) = bytes "bitvec" ∷ decimal width ∷ []
sort_fields (option_of row) = bytes "option" ∷ decimal row ∷ []
sort_fields (set_of row) = bytes "set" ∷ decimal row ∷ []
sort_fields (entity_of name) = bytes "entity" ∷ name ∷ []
sort_fields (record_of name fields) = bytes "record" ∷ name ∷ map decimal fields

abbrev pub sort_line : Sort → List ℕ
sort_line s = line (bytes "sort=") (sort_fields s)

abbrev pub variable_line : Variable → List ℕ
variable_line v = line (bytes "var=") (v.name ∷ decimal v.sort ∷ [])

abbrev pub function_line : Function → List ℕ
function_line f = line (bytes "fun=") (f.name ∷ decimal f.argument ∷ decimal f.result ∷ [])

-- the text goes to the line's end
abbrev pub member_line : Member → List ℕ
member_line m = line (bytes "enum=") (m.name ∷ decimal m.entity ∷ m.text ∷ [])

unfoldable pub lines {ℓ} : {A : Type ℓ} → (A → List ℕ) → List A → List ℕ
lines write [] = []
lines write (x ∷ xs) = write x ++ lines write xs

unfoldable pub written : Tables → List ℕ
written t = lines sort_line t.sorts ++ (lines variable_line t.variables ++ (lines function_line t.functions ++ lines member_line t.members))

-- a text form has no place for a line feed in a member's text
abbrev pub one_line : List ℕ → Bool
one_line text = not (any (eqb 0x0A) text)

unfoldable pub writable : Tables → Bool
writable t = all (λ m. one_line m.text) t.members
