-- Document 01, "The model walk", and document 02, R-1: what a model, or a reply to get-value, defines of the tables' names, or the refusal.
use Rattle.std.specs.Prelude.{Bool, true, false, cond, List, [], ◌∷◌, ◌++◌, ℕ, eqb, None, Option, Some, Err, Ok, Result}
use Rattle.ground.specs.Lists.{at}
use Rattle.refusals.specs.declared.Refusal.TheVariants.{UnexpectedModel, UnmatchedType, UnexpectedForm}
use Rattle.arena.specs.Tree.{Tree, Trees, nil, cons}
use Rattle.tables.specs.Find.{variable_row, function_row}
use Rattle.tables.specs.Sort.{Sort, bool, string, ext, bit_vec, option_of, set_of, entity_of, record_of, Variable, Function, Tables}
use Rattle.shapes.specs.Shape.{on_app}
use Rattle.sorts.specs.Result.{◌>>=◌, unless, found}
use Rattle.sorts.specs.Sort.{read_sort, levels}
use Rattle.values.specs.Value.{Value, v_bool}
use Rattle.means.specs.Literal.{read}
use Rattle.commands.specs.declared.form.Form.{Form}
use Rattle.commands.specs.Pair.{Pair, pair}
use Rattle.commands.specs.Command.{Command, variable, function, misshapen, command, Chain, default, arm, chain, tests, key}
use Rattle.refusals.specs.declared.Refusal.{Refusal}

-- where the argument is the key, the value
pub record Arm : Type 0 where
  pub «when» : Value
  pub «then» : Value

-- a function's table as it was written: the arms in order, repeats kept, and the value elsewhere
pub record Table : Type 0 where
  pub arms : List Arm
  pub «else» : Value

abbrev pub arm_of : Value → Value → Arm
arm_of k v = record { «when» = k; «then» = v }

abbrev pub table_of : List Arm → Value → Table
table_of arms v = record { arms = arms; «else» = v }

abbrev pub push : Arm → Table → Table
push a t = table_of (a ∷ t.arms) t.«else»

abbrev pub is_bool : Option Sort → Bool
is_bool None = false
is_bool (Some bool) = true
is_bool (Some string) = false
is_bool (Some (ext e)) = false
is_bool (Some (bit_vec w)) = false
is_bool (Some (option_of q)) = false
is_bool (Some (set_of q)) = false
is_bool (Some (entity_of n)) = false
is_bool (Some (record_of n fs)) = false

-- what a command defines: a variable's or a function's row, and its value or table
pub data Definition : Type 0 where
  is_variable : ℕ → Value → Definition
  is_function : ℕ → Table → Definition

module _ (T : Tables) where
  -- a test's key: its shape (21), then the literal, of which no sort is expected
  module _ (x : List ℕ) (argument result : ℕ) where
    unfoldable pub read_chain : Chain → Result Table Refusal
    read_chain (default t) = read T levels (Some result) t >>= λ l. unless (eqb l.row result) UnmatchedType (Ok (table_of [] l.value))
    read_chain (arm test t rest) =
        found UnexpectedForm (key x test) >>= λ k.
        read T levels None k >>= λ m.
        read T levels (Some result) t >>= λ l.
        unless (eqb m.row argument) UnmatchedType
        (unless (eqb l.row result) UnmatchedType
        (read_chain rest >>= λ table. Ok (push (arm_of m.value l.value) table)))

    unfoldable pub read_tests : Trees → Result Table Refusal
    read_tests nil = Ok (table_of [] (v_bool false))
    read_tests (cons test us) =
        found UnexpectedForm (key x test) >>= λ k.
        read T levels None k >>= λ m.
        unless (eqb m.row argument) UnmatchedType
        (read_tests us >>= λ table. Ok (push (arm_of m.value (v_bool true)) table))

    -- a body headed `or` needs result bool
    abbrev pub body_by : Tree → Option Trees → Result Table Refusal
    body_by body None = read_chain (chain body)
    body_by body (Some us) = unless (is_bool (at T.sorts result)) UnmatchedType (read_tests us)

    abbrev pub read_body : Tree → Result Table Refusal
    read_body body = body_by body (tests body)

  -- a value that expects a row's sort, 16 if its sort is another
  abbrev pub value_as : ℕ → Tree → Result Value Refusal
  value_as row t = read T levels (Some row) t >>= λ l. unless (eqb l.row row) UnmatchedType (Ok l.value)

  -- a variable: sort, value, 16 if the value's sort differs, 16 if the table's differs
  abbrev pub variable_value : Variable → Tree → Tree → Result Value Refusal
  variable_value v sort t =
      read_sort T levels sort >>= λ row.
      value_as row t >>= λ x.
      unless (eqb v.sort row) UnmatchedType
      (Ok x)

  -- a function: both sorts read, then the argument's, then the result's, against the table (16)
  abbrev pub function_table : Function → List ℕ → Tree → Tree → Tree → Result Table Refusal
  function_table f x arg_sort sort body =
      read_sort T levels arg_sort >>= λ argument.
      read_sort T levels sort >>= λ result.
      unless (eqb argument f.argument) UnmatchedType
      (unless (eqb result f.result) UnmatchedType
      (read_body x argument result body))

  -- a name that is not in the form's table is skipped unread
  abbrev pub on_row : {A : Type 0} → List A → Option ℕ → (ℕ → A → Result Definition Refusal) → Result (List Definition) Refusal
  on_row rows None rule = Ok []
  on_row rows (Some i) rule = found UnexpectedModel (at rows i) >>= λ a. rule i a >>= λ d. Ok (d ∷ [])

  abbrev pub read_command : Command → Result (List Definition) Refusal
  read_command (variable name sort t) = on_row T.variables (variable_row T name) (λ i v. variable_value v sort t >>= λ x. Ok (is_variable i x))
  read_command (function name x arg_sort sort body) =
      on_row T.functions (function_row T name) (λ i f. function_table f x arg_sort sort body >>= λ table. Ok (is_function i table))
  read_command misshapen = Err UnexpectedModel

  -- R-1: a pair, else 13; the value of a name in the variable table expects the sort that the table gives it
  abbrev pub read_pair : Option Pair → Result (List Definition) Refusal
  read_pair None = Err UnexpectedModel
  read_pair (Some p) = on_row T.variables (variable_row T p.name) (λ i v. value_as v.sort p.second >>= λ x. Ok (is_variable i x))

  -- a part of a reply, by the reply's form
  abbrev pub read_part : Form → Tree → Result (List Definition) Refusal
  read_part Form.Model t = read_command (command t)
  read_part Form.Values t = read_pair (pair t)

  module _ (form : Form) where
    unfoldable pub read_parts : Trees → Result (List Definition) Refusal
    read_parts nil = Ok []
    read_parts (cons t us) = read_part form t >>= λ ds. read_parts us >>= λ es. Ok (ds ++ es)

    -- the root is a list
    unfoldable pub read_reply : Tree → Result (List Definition) Refusal
    read_reply t = on_app t (Err UnexpectedModel) (λ us. read_parts us)

  -- of commands
  abbrev pub read_model : Tree → Result (List Definition) Refusal
  read_model = read_reply Form.Model

  -- R-1: of pairs
  abbrev pub read_values : Tree → Result (List Definition) Refusal
  read_values = read_reply Form.Values

-- the last one of a row
abbrev pub or_else : {A : Type 0} → Option A → Option A → Option A
or_else None b = b
or_else (Some a) b = Some a

abbrev pub variable_in : ℕ → Definition → Option Value
variable_in i (is_variable j v) = cond (eqb i j) (Some v) None
variable_in i (is_function j t) = None

abbrev pub function_in : ℕ → Definition → Option Table
function_in i (is_variable j v) = None
function_in i (is_function j t) = cond (eqb i j) (Some t) None

unfoldable pub last_variable : ℕ → List Definition → Option Value
last_variable i [] = None
last_variable i (d ∷ ds) = or_else (last_variable i ds) (variable_in i d)

unfoldable pub last_function : ℕ → List Definition → Option Table
last_function i [] = None
last_function i (d ∷ ds) = or_else (last_function i ds) (function_in i d)
