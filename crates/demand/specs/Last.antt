-- Document 01, "The model walk", a later definition replaces an earlier one, and document 02, R-1, a later pair an earlier one: what a reply
-- says last of a name in a table, nothing of it read.
use Rattle.std.specs.Prelude.{Bool, false, cond, List, ℕ, eqb, None, Option, Some}
use Rattle.arena.specs.Tree.{Tree, Trees, nil, cons}
use Rattle.tables.specs.Find.{variable_row, function_row}
use Rattle.tables.specs.Sort.{Tables}
use Rattle.shapes.specs.Shape.{on_app}
use Rattle.commands.specs.declared.form.Form.{Form}
use Rattle.commands.specs.Pair.{Pair, pair}
use Rattle.commands.specs.Command.{Command, variable, function, misshapen, command}
use Rattle.model.specs.Model.{or_else}

-- a function's argument and its body
pub record Body : Type 0 where
  pub argument : List ℕ
  pub term : Tree

abbrev pub is_row : ℕ → Option ℕ → Bool
is_row i None = false
is_row i (Some j) = eqb i j

module _ (T : Tables) (i : ℕ) where
  abbrev pub term_in : Command → Option Tree
  term_in (variable name sort t) = cond (is_row i (variable_row T name)) (Some t) None
  term_in (function name x arg_sort sort body) = None
  term_in misshapen = None

  -- R-1: of a pair
  abbrev pub second_in : Option Pair → Option Tree
  second_in None = None
  second_in (Some p) = cond (is_row i (variable_row T p.name)) (Some p.second) None

  abbrev pub term_of : Form → Tree → Option Tree
  term_of Form.Model t = term_in (command t)
  term_of Form.Values t = second_in (pair t)

  module _ (form : Form) where
    unfoldable pub last_term_in : Trees → Option Tree
    last_term_in nil = None
    last_term_in (cons t us) = or_else (last_term_in us) (term_of form t)

    abbrev pub last_term : Tree → Option Tree
    last_term t = on_app t None (λ us. last_term_in us)

  abbrev pub body_in : Command → Option Body
  body_in (variable name sort t) = None
  body_in (function name x arg_sort sort body) = cond (is_row i (function_row T name)) (Some (record { argument = x; term = body })) None
  body_in misshapen = None

  unfoldable pub last_body_in : Trees → Option Body
  last_body_in nil = None
  last_body_in (cons t us) = or_else (last_body_in us) (body_in (command t))

  abbrev pub last_body : Tree → Option Body
  last_body t = on_app t None (λ us. last_body_in us)
