-- Document 01, "The model walk", and document 02, R-1: what one command, or one pair, answers: skipped; which name of the tables it defines,
-- where its value stands and how long its text is; or the refusal.
use Rattle.std.specs.Prelude.{◌≡◌, List, [], ◌∷◌, ℕ, ◌+◌, Some, Err, Ok, Result, None, Option}
use Rattle.arena.specs.Tree.{Tree}
use Rattle.tables.specs.Layout.{Lent, count, tables_of}
use Rattle.shapes.specs.Shows.{Standing, Reads}
use Rattle.literals.specs.Answer.{capped}
use Rattle.commands.specs.declared.form.Form.{Form}
use Rattle.commands.specs.Pair.{pair_of}
use Rattle.commands.specs.Command.{variable, function}
use Rattle.model.specs.Model.{Definition, is_variable, is_function, read_command, read_pair, read_part}
use Rattle.definitions.specs.Measure.{value_size, table_size}
use Rattle.walk.specs.declared.command.Noted.{Noted}
use Rattle.walk.specs.Placed.{value_at}
use Rattle.refusals.specs.declared.Refusal.{Refusal}

-- a place for each name of the tables, in table order: the variables', then the functions'
abbrev pub slot : Lent → Definition → ℕ
slot l (is_variable i v) = i
slot l (is_function i t) = count l.variables + i

-- how long its value, or its arms and its default, are with repeats kept
abbrev pub size : Definition → ℕ
size (is_variable i v) = value_size v
size (is_function i t) = table_size t

-- what a part was read as, and where its value stands
abbrev pub noted : Lent → Result (List Definition) Refusal → ℕ → Result (Option Noted) Refusal
noted l (Ok []) value = (Ok None)
noted l (Ok (d ∷ ds)) value = (Ok (Some (record { slot = slot l d; value = value; need = (capped (size d)) })))
noted l (Err r) value = Err r

-- what a definition that was checked is noted as
abbrev pub noted_as : Result ℕ Refusal → ℕ → ℕ → Result (Option Noted) Refusal
noted_as (Ok n) k value = (Ok (Some (record { slot = k; value = value; need = n })))
noted_as (Err r) k value = Err r

-- the part at a node
abbrev pub NotesAt : Form → Lent → List ℕ → List ℕ → ℕ → Result (Option Noted) Refusal → Type 0
NotesAt form l ws ts i r = (t : Tree) → Standing t ws ts i → r ≡ noted l (read_part (tables_of l) form t) (value_at form t i)

module _ (l : Lent) (ws ts : List ℕ) where
  -- a pair, by the text of its name and the node of its value
  abbrev pub NotesPair : ℕ → ℕ → ℕ → Result (Option Noted) Refusal → Type 0
  NotesPair offset long value r =
      (name : List ℕ) (t : Tree) → Reads name ts offset long → Standing t ws ts value →
      r ≡ noted l (read_pair (tables_of l) (Some (pair_of name t))) value

  -- a command of the one form and of the other, by the text of its name and the nodes of its parts
  abbrev pub NotesVariable : ℕ → ℕ → ℕ → ℕ → Result (Option Noted) Refusal → Type 0
  NotesVariable offset long sort value r =
      (name : List ℕ) (s t : Tree) → Reads name ts offset long → Standing s ws ts sort → Standing t ws ts value →
      r ≡ noted l (read_command (tables_of l) (variable name s t)) value

  abbrev pub NotesFunction : ℕ → ℕ → ℕ → ℕ → ℕ → ℕ → ℕ → Result (Option Noted) Refusal → Type 0
  NotesFunction offset long arg_offset arg_long arg_sort sort body r =
      (name x : List ℕ) (p s t : Tree) → Reads name ts offset long → Reads x ts arg_offset arg_long → Standing p ws ts arg_sort → Standing s ws ts sort → Standing t ws ts body →
      r ≡ noted l (read_command (tables_of l) (function name x p s t)) body
