-- Document 01, "The model walk" and "The listing", and document 02, R-1: what checking a definition answers: how long its text is with repeats kept, or the refusal.
use Rattle.std.specs.Prelude.{◌≡◌, Bool, true, false, cond, List, [], ◌∷◌, ◌++◌, ℕ, ◌+◌, eqb, length, None, Some, Err, Ok, Result}
use Rattle.refusals.specs.declared.Refusal.TheVariants.{UnmatchedType, UnexpectedForm}
use Rattle.arena.specs.Tree.{Tree, Trees}
use Rattle.tables.specs.declared.sort.SortRow.{SortRow}
use Rattle.tables.specs.Layout.{Lent, tables_of}
use Rattle.tables.specs.Sort.{Tables}
use Rattle.shapes.specs.Shows.{Standing, StandingAll, Reads}
use Rattle.sorts.specs.Result.{◌>>=◌, unless, found}
use Rattle.values.specs.Text.{text}
use Rattle.values.specs.Value.{Value, v_bool}
use Rattle.means.specs.Literal.{Lit, read}
use Rattle.literals.specs.Answer.{capped, answer}
use Rattle.literals.specs.Plan.{Given}
use Rattle.commands.specs.Command.{chain, key}
use Rattle.sorts.specs.Sort.{levels}
use Rattle.model.specs.Model.{Arm, arm_of, Table, value_as, variable_value, function_table, read_body, read_chain, read_tests}
use Rattle.model.specs.Listing.{line, arm_lines}
use Rattle.literals.specs.declared.answer.Literal.{Literal}
use Rattle.refusals.specs.declared.Refusal.{Refusal}

abbrev pub value_size : Value → ℕ
value_size v = length (text v)

-- the arms' lines and the last one
abbrev pub table_size : Table → ℕ
table_size t = length (arm_lines t.arms ++ line "else" (text t.«else»))

abbrev pub measured : {A : Type 0} → (A → ℕ) → Result A Refusal → Result ℕ Refusal
measured size (Ok a) = Ok (capped (size a))
measured size (Err r) = Err r

-- the table's sort has to be the one that was read
abbrev pub declared_as : Result ℕ Refusal → ℕ → ℕ → Result ℕ Refusal
declared_as (Ok n) row declared = cond (eqb declared row) (Ok n) (Err UnmatchedType)
declared_as (Err r) row declared = Err r

-- an arm's two lines
abbrev pub arm_size : Arm → ℕ
arm_size a = length (arm_lines (a ∷ []))

-- a literal that was read, of the row that it has to be of
abbrev pub ValueOf : Result Literal Refusal → ℕ → Result ℕ Refusal → Type 0
ValueOf a row r = (m : Result Lit Refusal) → a ≡ answer m → r ≡ measured value_size (m >>= λ l. unless (eqb l.row row) UnmatchedType (Ok l.value))

-- a key and a value that were read, as an arm
abbrev pub ArmOf : Result Literal Refusal → Result Literal Refusal → ℕ → ℕ → Result ℕ Refusal → Type 0
ArmOf a b argument result r =
    (m k : Result Lit Refusal) → a ≡ answer m → b ≡ answer k →
    r ≡ measured arm_size (m >>= λ l. k >>= λ n. unless (eqb l.row argument) UnmatchedType (unless (eqb n.row result) UnmatchedType (Ok (arm_of l.value n.value))))

-- an arm: its test's shape (21), key, value, the key's sort (16), the value's (16)
abbrev pub read_arm : Tables → List ℕ → ℕ → ℕ → Tree → Tree → Result Arm Refusal
read_arm T x argument result b c =
    found UnexpectedForm (key x b) >>= λ k.
    read T levels None k >>= λ m.
    read T levels (Some result) c >>= λ l.
    unless (eqb m.row argument) UnmatchedType
    (unless (eqb l.row result) UnmatchedType
    (Ok (arm_of m.value l.value)))

-- a test of an `or` body
abbrev pub read_test : Tables → List ℕ → ℕ → Tree → Result Arm Refusal
read_test T x argument b =
    found UnexpectedForm (key x b) >>= λ k.
    read T levels None k >>= λ m.
    unless (eqb m.row argument) UnmatchedType (Ok (arm_of m.value (v_bool true)))

-- what the words of a sort row say of it
abbrev pub bool_row : SortRow → Bool
bool_row SortRow.Bool = true
bool_row SortRow.String = false
bool_row SortRow.Decimal = false
bool_row SortRow.Datetime = false
bool_row SortRow.Duration = false
bool_row (SortRow.BitVec width) = false
bool_row (SortRow.Option row) = false
bool_row (SortRow.Set row) = false
bool_row SortRow.Entity = false
bool_row (SortRow.Record first size) = false
bool_row SortRow.NoRow = false

-- what is before a table's last line, and that line
abbrev pub closed_as : ℕ → Result ℕ Refusal → Result ℕ Refusal
closed_as total (Ok n) = Ok (capped (capped (total + n) + 6))
closed_as total (Err r) = Err r

-- a key of a test, as an arm with the value true
abbrev pub test_as : Result ℕ Refusal → Result ℕ Refusal
test_as (Ok n) = Ok (capped (n + 16))
test_as (Err r) = Err r

module _ (sorts fields members names ws ts : List ℕ) where
  -- a value that has to be of a row's sort, by its node
  abbrev pub ValueAt : ℕ → ℕ → Result ℕ Refusal → Type 0
  ValueAt row value r =
      (l : Lent) → Given sorts fields members names l → (t : Tree) → Standing t ws ts value →
      r ≡ measured value_size (value_as (tables_of l) row t)

  -- a variable that the table gives a sort, by the nodes of its sort and value
  abbrev pub VariableAt : ℕ → ℕ → ℕ → Result ℕ Refusal → Type 0
  VariableAt declared sort value r =
      (l : Lent) → Given sorts fields members names l → (name : List ℕ) (s t : Tree) → Standing s ws ts sort → Standing t ws ts value →
      r ≡ measured value_size (variable_value (tables_of l) (record { name = name; sort = declared }) s t)

  -- an arm by the nodes of its test and its value, and a test of an `or` body, where the argument's name and both rows are known
  abbrev pub ArmAt : ℕ → ℕ → ℕ → ℕ → ℕ → ℕ → Result ℕ Refusal → Type 0
  ArmAt offset size argument result test value r =
      (l : Lent) → Given sorts fields members names l → (x : List ℕ) (b c : Tree) → Reads x ts offset size → Standing b ws ts test → Standing c ws ts value →
      r ≡ measured arm_size (read_arm (tables_of l) x argument result b c)

  abbrev pub TestAt : ℕ → ℕ → ℕ → ℕ → Result ℕ Refusal → Type 0
  TestAt offset size argument test r =
      (l : Lent) → Given sorts fields members names l → (x : List ℕ) (b : Tree) → Reads x ts offset size → Standing b ws ts test →
      r ≡ measured arm_size (read_test (tables_of l) x argument b)

  -- a chain of arms, and so many tests from a node on
  abbrev pub ChainAt : ℕ → ℕ → ℕ → ℕ → ℕ → Result ℕ Refusal → Type 0
  ChainAt offset size argument result body r =
      (l : Lent) → Given sorts fields members names l → (x : List ℕ) (t : Tree) → Reads x ts offset size → Standing t ws ts body →
      r ≡ measured table_size (read_chain (tables_of l) x argument result (chain t))

  abbrev pub TestsOf : ℕ → ℕ → ℕ → ℕ → ℕ → Result ℕ Refusal → Type 0
  TestsOf offset size argument first many r =
      (l : Lent) → Given sorts fields members names l → (x : List ℕ) (us : Trees) (result : ℕ) → Reads x ts offset size → StandingAll us ws ts first many →
      r ≡ measured table_size (read_tests (tables_of l) x argument result us)

  -- a body
  abbrev pub BodyAt : ℕ → ℕ → ℕ → ℕ → ℕ → Result ℕ Refusal → Type 0
  BodyAt offset size argument result body r =
      (l : Lent) → Given sorts fields members names l → (x : List ℕ) (t : Tree) → Reads x ts offset size → Standing t ws ts body →
      r ≡ measured table_size (read_body (tables_of l) x argument result t)

  -- a function that the table gives two sorts
  abbrev pub FunctionAt : ℕ → ℕ → ℕ → ℕ → ℕ → ℕ → ℕ → Result ℕ Refusal → Type 0
  FunctionAt argument result offset size arg_sort sort body r =
      (l : Lent) → Given sorts fields members names l → (name x : List ℕ) (p s t : Tree) → Reads x ts offset size → Standing p ws ts arg_sort → Standing s ws ts sort → Standing t ws ts body →
      r ≡ measured table_size (function_table (tables_of l) (record { name = name; argument = argument; result = result }) x p s t)
