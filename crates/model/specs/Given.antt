-- Document 02, R-1: replies to get-value, what they list and what they are refused by; each is one that a hasty reader takes for another.
use Rattle.std.specs.Prelude.{◌≡◌, refl, List, [], ◌∷◌, ◌++◌, map, ℕ, Err, Ok, Result}
use Prim.Native.String.{String}
use Rattle.ground.specs.Bytes.{bytes}
use Rattle.ground.specs.Lists.{find, at}
use Rattle.refusals.specs.declared.Refusal.TheVariants.{UnexpectedModel, UnknownLiteral, UnmatchedType}
use Rattle.arena.specs.Text.{same_text}
use Rattle.arena.specs.Tree.{Tree, bit_vec, numeral}
use Rattle.decimals.specs.Decimal.{decimal, last_digits, digit_count_within}
use Rattle.tables.specs.Find.{sort_row, named_sort, variable_row, function_row, member_row}
use Rattle.tables.specs.Sort.{bool, bit_vec as bits, Tables}
use Rattle.shapes.specs.Shape.{shape}
use Rattle.sorts.specs.Result.{◌>>=◌, unless}
use Rattle.values.specs.Normal.{normal}
use Rattle.values.specs.Text.{text}
use Rattle.means.specs.Literal.{read_with}
use Rattle.means.specs.Samples.{word, of}
use Rattle.commands.specs.Command.{command}
use Rattle.model.specs.Model.{Definition, read_parts, read_reply, read_model, read_values, last_variable, last_function}
use Rattle.model.specs.Listing.{line, rendered, listing}
use Rattle.refusals.specs.declared.Refusal.{Refusal}

-- bool; bitvec 1; var b 0; fun f 0 0
abbrev tables : Tables
tables = record {
  sorts = bool ∷ bits 1 ∷ [];
  variables = record { name = bytes "b"; sort = 0 } ∷ [];
  functions = record { name = bytes "f"; argument = 0; result = 0 } ∷ [];
  members = [];
}

abbrev listed : Result (List Definition) Refusal → Result (List ℕ) Refusal
listed m = m >>= λ ds. Ok (listing tables ds)

-- (NAME VALUE), both symbols
abbrev given : String → String → Tree
given name value = of (word name ∷ word value ∷ [])

abbrev nothing : Result (List ℕ) Refusal
nothing = Ok (bytes "vars=0\nfuns=0\n")

abbrev one : String → Result (List ℕ) Refusal
one value = Ok (bytes "vars=1\nfuns=0\nvar=b\nsort=0\n" ++ line "value" (bytes value))

-- the value of its last pair; what is not in the variable table is skipped unread, a function's name and one with its bars among it
taken :
    map (λ us. listed (read_values tables (of us)))
    (
    -- ()
    []
    -- ((b true))
    ∷ (given "b" "true" ∷ [])
    -- ((b true) (b false))
    ∷ (given "b" "true" ∷ given "b" "false" ∷ [])
    -- ((z z))
    ∷ (given "z" "z" ∷ [])
    -- ((f z))
    ∷ (given "f" "z" ∷ [])
    -- ((|b| true))
    ∷ (given "|b|" "true" ∷ [])
    -- ((b true) (z (z)) (|b| z))
    ∷ (given "b" "true" ∷ of (word "z" ∷ of (word "z" ∷ []) ∷ []) ∷ given "|b|" "z" ∷ [])
    ∷ [])
    ≡ nothing ∷ one "true" ∷ one "false" ∷ nothing ∷ nothing ∷ nothing ∷ one "true" ∷ []
unfolding find at same_text decimal last_digits digit_count_within sort_row named_sort variable_row function_row member_row shape ◌>>=◌ unless normal text read_with read_parts read_reply last_variable last_function rendered listing
taken = refl

-- pair by pair: its shape, its literal, its sort; a pair that is replaced is checked too, and what stands behind a fault is not looked at
refusals :
    map (λ us. listed (read_values tables (of us)))
    (
    -- ((b z) x)
    (given "b" "z" ∷ word "x" ∷ [])
    -- ((b z) (b true))
    ∷ (given "b" "z" ∷ given "b" "true" ∷ [])
    -- ((b true) (b z))
    ∷ (given "b" "true" ∷ given "b" "z" ∷ [])
    -- ((b #b1) x)
    ∷ (of (word "b" ∷ bit_vec 1 1 ∷ []) ∷ word "x" ∷ [])
    -- (x (b z))
    ∷ (word "x" ∷ given "b" "z" ∷ [])
    -- ((b))
    ∷ (of (word "b" ∷ []) ∷ [])
    -- ((z z z))
    ∷ (of (word "z" ∷ word "z" ∷ word "z" ∷ []) ∷ [])
    -- ((7 true))
    ∷ (of (numeral 7 ∷ word "true" ∷ []) ∷ [])
    -- (((b) true))
    ∷ (of (of (word "b" ∷ []) ∷ word "true" ∷ []) ∷ [])
    ∷ [])
    ≡
    Err UnknownLiteral ∷ Err UnknownLiteral ∷ Err UnknownLiteral ∷ Err UnmatchedType
    ∷ Err UnexpectedModel ∷ Err UnexpectedModel ∷ Err UnexpectedModel ∷ Err UnexpectedModel ∷ Err UnexpectedModel
    ∷ []
unfolding find at same_text decimal last_digits digit_count_within sort_row named_sort variable_row function_row member_row shape ◌>>=◌ unless normal text read_with read_parts read_reply last_variable last_function rendered listing
refusals = refl

-- a root that is no list; of the two forms each is refused where the other is wanted, and () is a good reply of both
roots :
    listed (read_values tables (word "b")) ∷ listed (read_model tables (of (given "b" "true" ∷ [])))
    ∷ listed (read_values tables (of (of (word "define-fun" ∷ word "b" ∷ of [] ∷ word "Bool" ∷ word "true" ∷ []) ∷ [])))
    ∷ listed (read_model tables (of []))
    ∷ []
    ≡ Err UnexpectedModel ∷ Err UnexpectedModel ∷ Err UnexpectedModel ∷ nothing ∷ []
unfolding find at same_text decimal last_digits digit_count_within sort_row named_sort variable_row function_row member_row shape ◌>>=◌ unless normal text read_with command read_parts read_reply last_variable last_function rendered listing
roots = refl
