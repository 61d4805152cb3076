-- Document 01, "Sorts and literals": what the calls answer that read a literal without another one in it, or a step around one.
use Rattle.std.specs.Prelude.{◌≡◌, true, false, List, ℕ, eqb, length, None, Option, Some, Err, Ok, Result}
use Rattle.ground.specs.Lists.{at}
use Rattle.refusals.specs.declared.Refusal.TheVariants.{UnmatchedType, InvalidOptionType, InvalidSetType}
use Rattle.tables.specs.declared.sort.Wanted.{Wanted}
use Rattle.tables.specs.declared.sort.SortRow.{SortRow}
use Rattle.tables.specs.Find.{found as found_as}
use Rattle.tables.specs.Layout.{Lent, member_at, tables_of}
use Rattle.tables.specs.Sort.{Sort, Tables}
use Rattle.shapes.specs.declared.shape.Kind.{Kind}
use Rattle.shapes.specs.Shows.{ext_of}
use Rattle.sorts.specs.Result.{◌>>=◌, unless}
use Rattle.tables.specs.Sort.{ext, bit_vec, string}
use Rattle.values.specs.Value.{Values, v_string, v_set, v_ext, v_bits, union}
use Rattle.words.specs.Extension.{signed}
use Rattle.literals.specs.declared.form.Form.{Form}
use Rattle.literals.specs.declared.form.Then.{Then}
use Rattle.means.specs.Literal.{Lit, option_in, set_in, lit_of, expect_in, none_lit, empty_lit, some_lit, singleton_lit, union_lit, indexed_lit, width_lit, member_lit, word_lit}
use Rattle.literals.specs.Answer.{answer, need}
use Rattle.literals.specs.declared.answer.Literal.{Literal}
use Rattle.refusals.specs.declared.Refusal.{Refusal}

abbrev pub inside_of : Form → Option Sort → Option ℕ
inside_of Form.Option s = option_in s
inside_of Form.Set s = set_in s

-- what follows the reading of the one literal inside
abbrev pub then_lit : Tables → Then → Lit → Result Lit Refusal
then_lit T Then.Some l = some_lit T l
then_lit T (Then.SomeAs row) l = some_lit T l >>= λ m. unless (eqb m.row row) UnmatchedType (Ok m)
then_lit T Then.Singleton l = singleton_lit T l

-- none, or the empty set
abbrev pub bare_lit : Tables → Form → ℕ → Result Lit Refusal
bare_lit T Form.Option row = none_lit T row
bare_lit T Form.Set row = empty_lit T row

-- what the words of a sort row say of it
abbrev pub option_row : SortRow → Option ℕ
option_row SortRow.Bool = None
option_row SortRow.String = None
option_row SortRow.Decimal = None
option_row SortRow.Datetime = None
option_row SortRow.Duration = None
option_row (SortRow.BitVec width) = None
option_row (SortRow.Option row) = Some row
option_row (SortRow.Set row) = None
option_row SortRow.Entity = None
option_row (SortRow.Record first size) = None
option_row SortRow.NoRow = None

abbrev pub set_row : SortRow → Option ℕ
set_row SortRow.Bool = None
set_row SortRow.String = None
set_row SortRow.Decimal = None
set_row SortRow.Datetime = None
set_row SortRow.Duration = None
set_row (SortRow.BitVec width) = None
set_row (SortRow.Option row) = None
set_row (SortRow.Set row) = Some row
set_row SortRow.Entity = None
set_row (SortRow.Record first size) = None
set_row SortRow.NoRow = None

abbrev pub bare_answer : Form → ℕ → Option ℕ → Result Literal Refusal
bare_answer Form.Option row (Some q) = (Ok (record { row = row; need = 4; is_set = false }))
bare_answer Form.Option row None = Err InvalidOptionType
bare_answer Form.Set row (Some q) = (Ok (record { row = row; need = 2; is_set = true }))
bare_answer Form.Set row None = Err InvalidSetType

-- the row inside a row
abbrev pub InsideRow : List ℕ → ℕ → Form → Option ℕ → Type 0
InsideRow sorts row form r = (l : Lent) → l.sorts ≡ sorts → r ≡ found_as (inside_of form (at (tables_of l).sorts row))

abbrev pub Expects : List ℕ → Option ℕ → Form → Result (Option ℕ) Refusal → Type 0
Expects sorts expected form r = (l : Lent) → l.sorts ≡ sorts → r ≡ expect_in (tables_of l) (inside_of form) expected

abbrev pub BareOf : List ℕ → ℕ → Form → Result Literal Refusal → Type 0
BareOf sorts row form r = (l : Lent) → l.sorts ≡ sorts → r ≡ answer (bare_lit (tables_of l) form row)

abbrev pub Finishes : List ℕ → Result Literal Refusal → Then → Result Literal Refusal → Type 0
Finishes sorts inner step r = (l : Lent) → l.sorts ≡ sorts → (m : Result Lit Refusal) → inner ≡ answer m → r ≡ answer (m >>= λ k. then_lit (tables_of l) step k)

abbrev pub Matches : Result Literal Refusal → ℕ → Result Literal Refusal → Type 0
Matches inner row r = (m : Result Lit Refusal) → inner ≡ answer m → r ≡ answer (m >>= λ k. unless (eqb k.row row) UnmatchedType (Ok k))

abbrev pub UnionNeed : ℕ → ℕ → ℕ → Type 0
UnionNeed a b r = (vs ws : Values) → a ≡ need (v_set vs) → b ≡ need (v_set ws) → r ≡ need (v_set (union vs ws))

abbrev pub UnionOf : Result Literal Refusal → Result Literal Refusal → Result Literal Refusal → Type 0
UnionOf a b r = (m k : Result Lit Refusal) → a ≡ answer m → b ≡ answer k → r ≡ answer (m >>= λ l. k >>= λ n. union_lit l n)

abbrev pub ExtensionOf : List ℕ → Kind → ℕ → Result Literal Refusal → Type 0
ExtensionOf sorts kind low r = (l : Lent) → l.sorts ≡ sorts → r ≡ answer (lit_of (tables_of l) (ext (ext_of kind)) (v_ext (ext_of kind) (signed 64 low)))

abbrev pub IndexedOf : List ℕ → List ℕ → ℕ → Result Literal Refusal → Type 0
IndexedOf sorts digits width r = (l : Lent) → l.sorts ≡ sorts → r ≡ answer (indexed_lit (tables_of l) digits width)

abbrev pub WordOf : List ℕ → List ℕ → List ℕ → List ℕ → Result Literal Refusal → Type 0
WordOf sorts members names name r = (l : Lent) → l.sorts ≡ sorts → l.members ≡ members → l.names ≡ names → r ≡ answer (word_lit (tables_of l) name)

abbrev pub BitsOf : List ℕ → ℕ → Result Literal Refusal → Type 0
BitsOf sorts width r = (l : Lent) → l.sorts ≡ sorts → (n : ℕ) → r ≡ answer (lit_of (tables_of l) (bit_vec width) (v_bits width n))

abbrev pub StringOf : List ℕ → ℕ → Result Literal Refusal → Type 0
StringOf sorts size r = (l : Lent) → l.sorts ≡ sorts → (s : List ℕ) → size ≡ length s → r ≡ answer (lit_of (tables_of l) string (v_string s))

-- an enum member's row
abbrev pub MemberOf : List ℕ → ℕ → ℕ → Result Literal Refusal → Type 0
MemberOf members most i r = (l : Lent) → l.members ≡ members → length l.names ≡ most → r ≡ answer (member_lit (tables_of l) (Some (member_at l i)))

abbrev pub wanted_of : Kind → Wanted
wanted_of Kind.Decimal = Wanted.Decimal
wanted_of Kind.Datetime = Wanted.Datetime
wanted_of Kind.Duration = Wanted.Duration

-- a number that was read, at a width
abbrev pub WidthOf : List ℕ → ℕ → ℕ → Result Literal Refusal → Type 0
WidthOf sorts n width r = (l : Lent) → l.sorts ≡ sorts → r ≡ answer (width_lit (tables_of l) n width)
