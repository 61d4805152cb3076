-- Document 01, "The listing" and "Numbers given back": its sample of the tables' text form, the lines that it names besides, numbers
-- that no line has, and which of two short buffers is told.
use Rattle.std.specs.Prelude.{◌≡◌, refl, [], ◌∷◌, map, None, Some, Err}
use Rattle.ground.specs.Bytes.{bytes}
use Rattle.ground.specs.Lists.{joined}
use Rattle.refusals.specs.declared.Refusal.TheVariants.{OutRoom}
use Rattle.decimals.specs.Decimal.{decimal, last_digits, digit_count_within}
use Rattle.tables.specs.Sort as Sort
use Rattle.tables.specs.Sort.{Sort, bool, ext, bit_vec, option_of, set_of, entity_of, record_of, Tables}
use Rattle.tables_text.specs.Line.{lines, sort_line, member_line, written}
use Rattle.tables_text.specs.Parse.{digits_from, numeral}
use Rattle.tables_text.specs.Read.{Buffers, fitted}

abbrev sample : Tables
sample = record {
  sorts = bool ∷ bit_vec 8 ∷ option_of 1 ∷ [];
  variables = record { name = bytes "x"; sort = 2 } ∷ [];
  functions = record { name = bytes "f"; argument = 1; result = 0 } ∷ [];
  members = [];
}

sample-written : written sample ≡ bytes "sort=bool\nsort=bitvec 8\nsort=option 1\nvar=x 2\nfun=f 1 0\n"
unfolding written lines joined decimal last_digits digit_count_within
sample-written = refl

-- the other lines
others-written : lines sort_line (set_of 1 ∷ ext Sort.datetime ∷ entity_of (bytes "User") ∷ record_of (bytes "R") (0 ∷ 12 ∷ []) ∷ [])
    ≡ bytes "sort=set 1\nsort=datetime\nsort=entity User\nsort=record R 0 12\n"
unfolding lines joined decimal last_digits digit_count_within
others-written = refl

-- a record without rows has no space after its name, and a text may be empty
bare_record : sort_line (record_of (bytes "R") []) ≡ bytes "sort=record R\n"
unfolding joined
bare_record = refl

bare-text : member_line (record { name = bytes "a=b"; entity = 3; text = [] }) ≡ bytes "enum=a=b 3 \n"
unfolding joined decimal last_digits digit_count_within
bare-text = refl

-- a leading zero, no digit, a sign; five digits; 0 and 1,023
numbers : map numeral (bytes "08" ∷ bytes "00" ∷ [] ∷ bytes "+8" ∷ bytes "10000" ∷ bytes "0" ∷ bytes "1023" ∷ [])
    ≡ None ∷ None ∷ None ∷ None ∷ None ∷ Some 0 ∷ Some 1023 ∷ []
unfolding numeral digits_from
numbers = refl

-- a sort row and two fields in no room: the sorts' five words are told
abbrev none_lent : Buffers
none_lent = record { sorts = []; fields = []; variables = []; functions = []; members = [] }

sorts-first : (fitted none_lent (record { sorts = 0 ∷ 1 ∷ 10 ∷ 0 ∷ 2 ∷ []; fields = 0 ∷ 0 ∷ []; variables = []; functions = []; members = []; names = [] })).answer ≡ Err (OutRoom 5)
unfolding fitted
sorts-first = refl

-- room for the sort row alone: the fields' two words are told, and not the room that there is
fields-next :
    (fitted (record { sorts = 7 ∷ 7 ∷ 7 ∷ 7 ∷ 7 ∷ []; fields = 7 ∷ []; variables = []; functions = []; members = [] })
    (record { sorts = 0 ∷ 1 ∷ 10 ∷ 0 ∷ 2 ∷ []; fields = 0 ∷ 0 ∷ []; variables = []; functions = []; members = []; names = [] })).answer
    ≡ Err (OutRoom 2)
unfolding fitted
fields-next = refl
