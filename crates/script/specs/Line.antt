-- Document 01, "What is carried over", item 4, after smtlib_script.rs: the twelve line forms, each ended by 0A.
use Rattle.std.specs.Prelude.{Bool, true, false, cond, List, [], ◌∷◌, ◌++◌, map, ℕ}
use Rattle.ground.specs.Bytes.{bytes}
use Rattle.ground.specs.Lists.{joined}
use Rattle.parts.specs.Parts.{paired}
use Rattle.parts.specs.Texts.{list, pair, spaced}

-- a command and the 0A that ends its line
abbrev pub command : List (List ℕ) → List ℕ
command parts = list parts ++ bytes "\n"

unfoldable pub set_logic : List ℕ → List ℕ
set_logic logic = command (bytes "set-logic" ∷ logic ∷ [])

unfoldable pub set_option : List ℕ → List ℕ → List ℕ
set_option option value = command (bytes "set-option" ∷ (bytes ":" ++ option) ∷ value ∷ [])

-- a comment stays on its line
unfoldable pub comment : List ℕ → List ℕ
comment text = bytes "; " ++ (map spaced text ++ bytes "\n")

unfoldable pub assert : List ℕ → List ℕ
assert term = command (bytes "assert" ∷ term ∷ [])

-- the arguments are pairs of a name and a sort
unfoldable pub define_fun : List ℕ → List (List ℕ) → List ℕ → List ℕ → List ℕ
define_fun name arguments sort body = command (bytes "define-fun" ∷ name ∷ list (paired pair arguments) ∷ sort ∷ body ∷ [])

unfoldable pub declare_const : List ℕ → List ℕ → List ℕ
declare_const name sort = command (bytes "declare-const" ∷ name ∷ sort ∷ [])

unfoldable pub declare_fun : List ℕ → List (List ℕ) → List ℕ → List ℕ
declare_fun name arguments sort = command (bytes "declare-fun" ∷ name ∷ list arguments ∷ sort ∷ [])

-- 0A and two spaces stand before each constructor, once where there is none
abbrev pub indent : List ℕ
indent = bytes "\n  "

unfoldable pub constructor_list : List (List ℕ) → List ℕ
constructor_list constructors = bytes "(" ++ (indent ++ (joined indent constructors ++ bytes ")"))

-- parameters bring `par` unless their joined text is empty
abbrev pub is_empty : List ℕ → Bool
is_empty [] = true
is_empty (b ∷ bs) = false

abbrev pub parametric : List (List ℕ) → List ℕ → List ℕ
parametric parameters body = list (bytes "par" ∷ list parameters ∷ body ∷ [])

unfoldable pub with_parameters : List (List ℕ) → List ℕ → List ℕ
with_parameters parameters body = cond (is_empty (joined (bytes " ") parameters)) body (parametric parameters body)

abbrev pub datatype_line : List ℕ → List ℕ → List ℕ
datatype_line name body = command (bytes "declare-datatype" ∷ name ∷ body ∷ [])

unfoldable pub declare_datatype : List ℕ → List (List ℕ) → List (List ℕ) → List ℕ
declare_datatype name parameters constructors = datatype_line name (with_parameters parameters (constructor_list constructors))

unfoldable pub check_sat : List ℕ
check_sat = command (bytes "check-sat" ∷ [])

unfoldable pub get_model : List ℕ
get_model = command (bytes "get-model" ∷ [])

unfoldable pub reset : List ℕ
reset = command (bytes "reset" ∷ [])

unfoldable pub exit : List ℕ
exit = command (bytes "exit" ∷ [])
