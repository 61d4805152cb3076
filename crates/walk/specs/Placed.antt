-- Document 01, "The model walk" and "The arena", and document 02, R-1: what the parts of a reply define, each definition with the node of its
-- command or its pair itself and the node where its value stands, a variable's, or its body, a function's.
use Rattle.std.specs.Prelude.{List, [], ◌++◌, map, ℕ, ◌+◌, ◌-◌, ◌<◌, length, None, Option, Some, Ok, Result}
use Rattle.arena.specs.Tree.{Tree, Trees, nil, cons, nodes}
use Rattle.tables.specs.Sort.{Tables}
use Rattle.sorts.specs.Result.{◌>>=◌}
use Rattle.commands.specs.declared.form.Form.{Form}
use Rattle.commands.specs.Pair.{Pair, pair}
use Rattle.commands.specs.Command.{Command, variable, function, misshapen, command}
use Rattle.model.specs.Model.{Definition, is_variable, is_function, read_part}
use Rattle.refusals.specs.declared.Refusal.{Refusal}

pub record Placed : Type 0 where
  pub it : Definition
  pub node : ℕ
  pub value : ℕ

abbrev pub its : List Placed → List Definition
its ps = map (λ p. p.it) ps

-- its row is one of its table
abbrev pub Within : Tables → Definition → Type 0
Within T (is_variable i v) = i < length T.variables
Within T (is_function i t) = i < length T.functions

-- how many nodes a part's last has: a variable's value, a function's body
abbrev pub last_of : Command → ℕ
last_of (variable name sort t) = nodes t
last_of (function name x arg_sort sort body) = nodes body
last_of misshapen = 0

-- R-1: a pair's value
abbrev pub second_of : Option Pair → ℕ
second_of None = 0
second_of (Some p) = nodes p.second

abbrev pub last_part : Form → Tree → ℕ
last_part Form.Model t = last_of (command t)
last_part Form.Values t = second_of (pair t)

-- where that last stands, if the part stands at node i: it ends where the part does
abbrev pub value_at : Form → Tree → ℕ → ℕ
value_at form t i = i + nodes t - last_part form t

abbrev pub placed_at : ℕ → ℕ → Definition → Placed
placed_at node value d = record { it = d; node = node; value = value }

-- parts that stand one after the other from node i on
unfoldable pub placed : Tables → Form → ℕ → Trees → Result (List Placed) Refusal
placed T form i nil = Ok []
placed T form i (cons t us) = read_part T form t >>= λ ds. placed T form (i + nodes t) us >>= λ ps. Ok (map (placed_at i (value_at form t i)) ds ++ ps)
