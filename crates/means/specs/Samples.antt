-- Document 01, "Sorts and literals": literals at the edges of the rules, which a wrong reader would take, or refuse by another number.
use Rattle.std.specs.Prelude.{◌≡◌, refl, List, [], ◌∷◌, map, ◌-◌, ◌^◌, None, Some, Err, Ok, Result}
use Prim.Native.String.{String}
use Rattle.ground.specs.Bytes.{bytes}
use Rattle.ground.specs.Lists.{find, at}
use Rattle.refusals.specs.declared.Refusal.TheVariants.{UnknownLiteral, UnmatchedFieldType, UnmatchedRecordType, TooNested}
use Rattle.arena.specs.Text.{same_text}
use Rattle.arena.specs.Tree.{Tree, Trees, bit_vec, symbol, string as quoted, app, nil, cons}
use Rattle.tables.specs.Find.{sort_row, named_sort, member_row}
use Rattle.tables.specs.Sort.{bool, string, bit_vec as bits, option_of, record_of, Tables}
use Rattle.shapes.specs.Shape.{shape}
use Rattle.sorts.specs.Result.{◌>>=◌, unless}
use Rattle.values.specs.Value.{v_bits}
use Rattle.values.specs.Text.{hex_width}
use Rattle.means.specs.Literal.{Lit, lit, read, read_with}
use Rattle.refusals.specs.declared.Refusal.{Refusal}

abbrev pub list : List Tree → Trees
list [] = nil
list (t ∷ ts) = cons t (list ts)

abbrev pub word : String → Tree
word s = symbol (bytes s)

abbrev pub of : List Tree → Tree
of ts = app (list ts)

-- bool; string; option 0; record R 0; record P 2
abbrev tables : Tables
tables = record {
  sorts = bool ∷ string ∷ option_of 0 ∷ record_of (bytes "R") (0 ∷ []) ∷ record_of (bytes "P") (2 ∷ []) ∷ [];
  variables = [];
  functions = [];
  members = [];
}

-- fields too few, too many, and of another sort
no_field : read tables 9 None (of (word "R" ∷ [])) ≡ Err UnmatchedRecordType
unfolding read_with shape find at same_text sort_row named_sort member_row ◌>>=◌ unless
no_field = refl

two_fields : read tables 9 None (of (word "R" ∷ word "true" ∷ word "true" ∷ [])) ≡ Err UnmatchedRecordType
unfolding read_with shape find at same_text sort_row named_sort member_row ◌>>=◌ unless
two_fields = refl

other-field : read tables 9 None (of (word "R" ∷ quoted [] ∷ [])) ≡ Err UnmatchedFieldType
unfolding read_with shape find at same_text sort_row named_sort member_row ◌>>=◌ unless
other-field = refl

-- `some` where a record is expected
no_option : read tables 9 (Some 3) (of (word "some" ∷ word "true" ∷ [])) ≡ Err UnknownLiteral
unfolding read_with shape find at same_text sort_row named_sort member_row ◌>>=◌ unless
no_option = refl

-- a field one level further than may be read
too-deep : read tables 1 None (of (word "R" ∷ word "true" ∷ [])) ≡ Err TooNested
unfolding read_with shape find at same_text sort_row named_sort member_row ◌>>=◌ unless
too-deep = refl

-- digits of widths 1, 4, 5, 127 and 128
widths : map hex_width (1 ∷ 4 ∷ 5 ∷ 127 ∷ 128 ∷ []) ≡ 1 ∷ 1 ∷ 2 ∷ 32 ∷ 32 ∷ []
widths = refl

-- a bit vector's value is its number below 2^width, whatever its sign: 127 ones, and 4
abbrev vectors : Tables
vectors = record { sorts = bits 127 ∷ bits 4 ∷ []; variables = []; functions = []; members = [] }

abbrev ones : List (Result Lit Refusal)
ones = read vectors 9 None (bit_vec 127 (2 ^ 128 - 1)) ∷ read vectors 9 None (bit_vec 4 (2 ^ 128 - 1)) ∷ []

unsigned-read : ones ≡ Ok (lit 0 (v_bits 127 (2 ^ 127 - 1))) ∷ Ok (lit 1 (v_bits 4 15)) ∷ []
unfolding read_with shape find at same_text sort_row named_sort member_row ◌>>=◌ unless
unsigned-read = refl
