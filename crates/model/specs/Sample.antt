-- Document 01, "The listing" and "The model walk": the sample, its tables, its model and its listing; what is replaced and what is skipped.
use Rattle.std.specs.Prelude.{◌≡◌, refl, List, [], ◌∷◌, ℕ, ◌-◌, ◌^◌, Err, Ok, Result}
use Rattle.ground.specs.Bytes.{bytes}
use Rattle.ground.specs.Lists.{joined, find, at}
use Rattle.refusals.specs.declared.Refusal.TheVariants.{UnexpectedModel, UnmatchedType}
use Rattle.arena.specs.Text.{same_text}
use Rattle.arena.specs.Tree.{Tree, bit_vec, numeral}
use Rattle.decimals.specs.Decimal.{decimal, last_digits, digit_count_within}
use Rattle.order.specs.Order.{before, insert, arranged}
use Rattle.tables.specs.Find.{sort_row, named_sort, variable_row, function_row, member_row}
use Rattle.tables.specs.Sort.{bool, bit_vec as bits, option_of, Tables}
use Rattle.shapes.specs.Shape.{shape}
use Rattle.shapes.specs.SortShape.{sort_shape}
use Rattle.sorts.specs.Result.{◌>>=◌, unless}
use Rattle.sorts.specs.Sort.{read_sort}
use Rattle.values.specs.Normal.{normal, arranged_values}
use Rattle.values.specs.Text.{text, hex, hex_digit}
use Rattle.means.specs.Literal.{read_with}
use Rattle.means.specs.Samples.{word, of}
use Rattle.commands.specs.Command.{command, chain, tests, key}
use Rattle.model.specs.Model.{Definition, read_chain, read_tests, read_parts, read_reply, read_model, last_variable, last_function}
use Rattle.model.specs.Listing.{rendered, listing}
use Rattle.refusals.specs.declared.Refusal.{Refusal}

-- `(_ BitVec 8)`
abbrev eight : Tree
eight = of (word "_" ∷ word "BitVec" ∷ numeral 8 ∷ [])

abbrev tables : Tables
tables = record {
  sorts = bool ∷ bits 8 ∷ option_of 1 ∷ [];
  variables = record { name = bytes "x"; sort = 2 } ∷ [];
  functions = record { name = bytes "f"; argument = 1; result = 0 } ∷ [];
  members = [];
}

abbrev model : Tree
model =
    of
    (of (word "define-fun" ∷ word "x" ∷ of [] ∷ of (word "Option" ∷ eight ∷ []) ∷ of (word "some" ∷ bit_vec 8 (2 ^ 128 - 1) ∷ []) ∷ [])
    ∷ of
    (word "define-fun" ∷ word "f" ∷ of (of (word "a" ∷ eight ∷ []) ∷ []) ∷ word "Bool"
    ∷ of (word "or" ∷ of (word "=" ∷ word "a" ∷ bit_vec 8 1 ∷ []) ∷ of (word "=" ∷ bit_vec 8 0 ∷ word "a" ∷ []) ∷ []) ∷ [])
    ∷ [])

abbrev listed : Result (List Definition) Refusal → Result (List ℕ) Refusal
listed m = m >>= λ ds. Ok (listing tables ds)

-- `(define-fun x () (Option (_ BitVec 8)) (some ..))`
abbrev define : ℕ → Tree
define n = of (word "define-fun" ∷ word "x" ∷ of [] ∷ of (word "Option" ∷ eight ∷ []) ∷ of (word "some" ∷ bit_vec 8 n ∷ []) ∷ [])

-- the name of a variable in the function form, and the other way round, with sorts and bodies that are none
abbrev turned : List Tree
turned =
    of (word "define-fun" ∷ word "x" ∷ of (of (word "a" ∷ word "Zork" ∷ []) ∷ []) ∷ word "Zork" ∷ word "zork" ∷ [])
    ∷ of (word "define-fun" ∷ word "f" ∷ of [] ∷ word "Zork" ∷ numeral 7 ∷ [])
    ∷ []

sample : listed (read_model tables model) ≡
    Ok (bytes "vars=1\nfuns=1\nvar=x\nsort=2\nvalue=some(bv8:ff)\nfun=f\narg=1\nout=0\nwhen=bv8:00\nthen=true\nwhen=bv8:01\nthen=true\nelse=false\n")
unfolding joined find at same_text decimal last_digits digit_count_within before insert arranged sort_row named_sort variable_row function_row member_row shape sort_shape ◌>>=◌ unless read_sort normal arranged_values text hex hex_digit read_with command chain tests key read_chain read_tests read_parts read_reply last_variable last_function rendered listing
sample = refl

-- a later definition replaces an earlier one, and what is skipped behind it does not
later-stays : listed (read_model tables (of (define 1 ∷ define 2 ∷ turned))) ≡ Ok (bytes "vars=1\nfuns=0\nvar=x\nsort=2\nvalue=some(bv8:02)\n")
unfolding joined find at same_text decimal last_digits digit_count_within before insert arranged sort_row named_sort variable_row function_row member_row shape sort_shape ◌>>=◌ unless read_sort normal arranged_values text hex hex_digit read_with command chain tests key read_chain read_tests read_parts read_reply last_variable last_function rendered listing
later-stays = refl

-- the second command's fault is found, though the first one is right
later-checked : listed (read_model tables (of (define 1 ∷ of (word "define-fun" ∷ word "x" ∷ []) ∷ []))) ≡ Err UnexpectedModel
unfolding joined find at same_text decimal last_digits digit_count_within before insert arranged sort_row named_sort variable_row function_row member_row shape sort_shape ◌>>=◌ unless read_sort normal arranged_values text hex hex_digit read_with command chain tests key read_chain read_tests read_parts read_reply last_variable last_function rendered listing
later-checked = refl

-- a default of the argument's sort, and an arm's value of it
abbrev body : Tree → Tree
body b = of (of (word "define-fun" ∷ word "f" ∷ of (of (word "a" ∷ eight ∷ []) ∷ []) ∷ word "Bool" ∷ b ∷ []) ∷ [])

wrong-default : listed (read_model tables (body (bit_vec 8 1))) ≡ Err UnmatchedType
unfolding joined find at same_text decimal last_digits digit_count_within before insert arranged sort_row named_sort variable_row function_row member_row shape sort_shape ◌>>=◌ unless read_sort normal arranged_values text hex hex_digit read_with command chain tests key read_chain read_tests read_parts read_reply last_variable last_function rendered listing
wrong-default = refl

wrong-value : listed (read_model tables (body (of (word "ite" ∷ of (word "=" ∷ word "a" ∷ bit_vec 8 1 ∷ []) ∷ bit_vec 8 1 ∷ word "true" ∷ [])))) ≡ Err UnmatchedType
unfolding joined find at same_text decimal last_digits digit_count_within before insert arranged sort_row named_sort variable_row function_row member_row shape sort_shape ◌>>=◌ unless read_sort normal arranged_values text hex hex_digit read_with command chain tests key read_chain read_tests read_parts read_reply last_variable last_function rendered listing
wrong-value = refl

-- `or` where the argument is a bool and the result is none
wrong_or :
    read_model (record { sorts = bool ∷ bits 8 ∷ []; variables = []; functions = record { name = bytes "f"; argument = 0; result = 1 } ∷ []; members = [] })
    (of (of (word "define-fun" ∷ word "f" ∷ of (of (word "a" ∷ word "Bool" ∷ []) ∷ []) ∷ eight ∷ of (word "or" ∷ []) ∷ []) ∷ []))
    ≡ Err UnmatchedType
unfolding joined find at same_text decimal last_digits digit_count_within before insert arranged sort_row named_sort variable_row function_row member_row shape sort_shape ◌>>=◌ unless read_sort normal arranged_values text hex hex_digit read_with command chain tests key read_chain read_tests read_parts read_reply last_variable last_function rendered listing
wrong_or = refl
