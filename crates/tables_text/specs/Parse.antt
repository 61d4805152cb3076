-- How the lines of document 01's tables' text are walked: what each spells, kind after kind; laws `read_back` and `spelled-so` tie it
-- to `written`.
use Rattle.std.specs.Prelude.{Bool, true, false, not, cond, ◌&&◌, List, [], ◌∷◌, ℕ, zero, suc, ◌+◌, ◌-◌, ◌*◌, eqb, leb, ltb, length, take, drop, None, Option, Some}
use Rattle.ground.specs.Bytes.{bytes}
use Rattle.ground.specs.Options.{over}
use Rattle.lexicon.specs.Span.{span_by}
use Rattle.arena.specs.Text.{same_text}
use Rattle.tables.specs.Sort as Sort
use Rattle.tables.specs.Sort.{Sort, bool, string, ext, bit_vec, option_of, set_of, entity_of, record_of, Variable, Function, Member, Tables}
use Rattle.tables.specs.Rules.{row_limit}

-- bytes start with a key
unfoldable pub begins : List ℕ → List ℕ → Bool
begins [] s = true
begins (k ∷ ks) [] = false
begins (k ∷ ks) (b ∷ bs) = eqb b k && begins ks bs

-- how many bytes come before a separator
abbrev pub apart : ℕ → ℕ → Bool
apart byte b = not (eqb b byte)

abbrev pub span_to : ℕ → List ℕ → ℕ
span_to byte s = span_by (apart byte) s

-- the bytes before a separator, and those after it
pub record Cut : Type 0 where
  pub word : List ℕ
  pub rest : List ℕ

unfoldable pub cut_at : ℕ → List ℕ → Option Cut
cut_at byte s = cond (ltb (span_to byte s) (length s)) (Some (record { word = take (span_to byte s) s; rest = drop (suc (span_to byte s)) s })) None

abbrev pub space : ℕ
space = 0x20

abbrev pub line_feed : ℕ
line_feed = 0x0A

-- a number goes on after the digits that made n; no lawful row has one of more than four digits
unfoldable pub digits_from : ℕ → List ℕ → Option ℕ
digits_from n [] = Some n
digits_from n (b ∷ bs) = cond (leb 48 b && leb b 57 && ltb n 1000) (digits_from (n * 10 + (b - 48)) bs) None

abbrev pub alone : List ℕ → Option ℕ
alone [] = Some 0
alone (b ∷ bs) = None

-- no leading zero
unfoldable pub numeral : List ℕ → Option ℕ
numeral [] = None
numeral (b ∷ bs) = cond (eqb b 48) (alone bs) (digits_from 0 (b ∷ bs))

-- the words between single spaces
abbrev pub grown : ℕ → List (List ℕ) → List (List ℕ)
grown b [] = (b ∷ []) ∷ []
grown b (w ∷ ws) = (b ∷ w) ∷ ws

unfoldable pub pieces : List ℕ → List (List ℕ)
pieces [] = [] ∷ []
pieces (b ∷ bs) = cond (eqb b space) ([] ∷ pieces bs) (grown b (pieces bs))

-- the words of what is left at a word's end: nothing, or a space and more words
abbrev pub further : List ℕ → List (List ℕ)
further [] = []
further (b ∷ bs) = pieces bs

unfoldable pub numerals : List (List ℕ) → Option (List ℕ)
numerals [] = Some []
numerals (w ∷ ws) = over (numeral w) (λ n. over (numerals ws) (λ ns. Some (n ∷ ns)))

-- a record's name and rows
unfoldable pub record_in : List ℕ → Option Sort
record_in s = over (numerals (further (drop (span_to space s) s))) (λ rows. Some (record_of (take (span_to space s) s) rows))

-- a sort's line; of a record, all of its fields still stand as its name
abbrev pub numbered : (ℕ → Sort) → List ℕ → Option Sort
numbered sort s = over (numeral s) (λ n. Some (sort n))

unfoldable pub named_form : List ℕ → Option Sort
named_form s =
    cond (begins (bytes "sort=entity ") s) (Some (entity_of (drop 12 s)))
    (cond (begins (bytes "sort=record ") s) (Some (record_of (drop 12 s) []))
    None)

unfoldable pub numbered_form : List ℕ → Option Sort
numbered_form s =
    cond (begins (bytes "sort=bitvec ") s) (numbered bit_vec (drop 12 s))
    (cond (begins (bytes "sort=option ") s) (numbered option_of (drop 12 s))
    (cond (begins (bytes "sort=set ") s) (numbered set_of (drop 9 s))
    (named_form s)))

unfoldable pub form : List ℕ → Option Sort
form s =
    cond (same_text s (bytes "sort=bool")) (Some bool)
    (cond (same_text s (bytes "sort=string")) (Some string)
    (cond (same_text s (bytes "sort=decimal")) (Some (ext Sort.decimal))
    (cond (same_text s (bytes "sort=datetime")) (Some (ext Sort.datetime))
    (cond (same_text s (bytes "sort=duration")) (Some (ext Sort.duration))
    (numbered_form s)))))

abbrev pub filled : Option Sort → Option Sort
filled None = None
filled (Some bool) = Some bool
filled (Some string) = Some string
filled (Some (ext e)) = Some (ext e)
filled (Some (bit_vec width)) = Some (bit_vec width)
filled (Some (option_of row)) = Some (option_of row)
filled (Some (set_of row)) = Some (set_of row)
filled (Some (entity_of name)) = Some (entity_of name)
filled (Some (record_of s fields)) = record_in s

abbrev pub sort_in : List ℕ → Option Sort
sort_in s = filled (form s)

-- the lines of the other kinds
unfoldable pub variable_after : List ℕ → Option Variable
variable_after s = over (cut_at space s) (λ c. over (numeral c.rest) (λ n. Some (record { name = c.word; sort = n })))

unfoldable pub variable_in : List ℕ → Option Variable
variable_in s = cond (begins (bytes "var=") s) (variable_after (drop 4 s)) None

-- a number that a space ends
pub record Led : Type 0 where
  pub number : ℕ
  pub word : List ℕ
  pub rest : List ℕ

unfoldable pub led : List ℕ → Option Led
led s = over (cut_at space s) (λ c. over (numeral c.word) (λ n. Some (record { number = n; word = c.word; rest = c.rest })))

unfoldable pub function_after : List ℕ → Option Function
function_after s =
    over (cut_at space s)
    (λ c. over (led c.rest)
    (λ d. over (numeral d.rest)
    (λ n. Some (record { name = c.word; argument = d.number; result = n }))))

unfoldable pub function_in : List ℕ → Option Function
function_in s = cond (begins (bytes "fun=") s) (function_after (drop 4 s)) None

unfoldable pub member_after : List ℕ → Option Member
member_after s =
    over (cut_at space s)
    (λ c. over (led c.rest)
    (λ d. Some (record { name = c.word; entity = d.number; text = d.rest })))

unfoldable pub member_in : List ℕ → Option Member
member_in s = cond (begins (bytes "enum=") s) (member_after (drop 5 s)) None

-- rows one after the other, as long as a whole line is one, and at most so many; and what is left
pub record Walked (A : Type 0) : Type 0 where
  pub rows : List A
  pub rest : List ℕ

abbrev pub stopped : {A : Type 0} → List ℕ → Walked A
stopped s = record { rows = []; rest = s }

abbrev pub went : {A : Type 0} → List ℕ → Option A → Walked A → Walked A
went s None more = stopped s
went s (Some x) more = record { rows = x ∷ more.rows; rest = more.rest }

module _ {A : Type 0} (row : List ℕ → Option A) where
  unfoldable pub line_row : List ℕ → Option A
  line_row s = over (cut_at line_feed s) (λ c. row c.word)

  unfoldable pub walk : ℕ → List ℕ → Walked A
  walk zero s = stopped s
  walk (suc most) s = went s (line_row s) (walk most (drop (suc (span_to line_feed s)) s))

abbrev pub sort_rows : List ℕ → Walked Sort
sort_rows s = walk sort_in row_limit s

abbrev pub variable_rows : List ℕ → Walked Variable
variable_rows s = walk variable_in row_limit (sort_rows s).rest

abbrev pub function_rows : List ℕ → Walked Function
function_rows s = walk function_in row_limit (variable_rows s).rest

abbrev pub member_rows : List ℕ → Walked Member
member_rows s = walk member_in row_limit (function_rows s).rest

abbrev pub ended : {A : Type 0} → List ℕ → A → Option A
ended [] x = Some x
ended (b ∷ bs) x = None

-- the kinds in their order, to the text's end
unfoldable pub parse : List ℕ → Option Tables
parse s =
    ended (member_rows s).rest
    (record {
      sorts = (sort_rows s).rows;
      variables = (variable_rows s).rows;
      functions = (function_rows s).rows;
      members = (member_rows s).rows;
    })
