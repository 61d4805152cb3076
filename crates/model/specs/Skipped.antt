-- Document 01, "The model walk", and document 02, R-1: two replies that differ only in what is skipped: the sorts, bodies and values of names
-- that are not in the table of their form.
use Rattle.std.specs.Prelude.{◌≡◌, List, ℕ, None, Some}
use Rattle.arena.specs.Tree.{Tree, Trees, nil, cons}
use Rattle.tables.specs.Find.{variable_row, function_row}
use Rattle.tables.specs.Sort.{Tables}
use Rattle.commands.specs.declared.form.Form.{Form}
use Rattle.commands.specs.Pair.{pair_of, pair}
use Rattle.commands.specs.Command.{variable, function, command}

module _ (T : Tables) where
  pub data AlikePart : Form → Tree → Tree → Type 0 where
    same : {form : Form} (t : Tree) → AlikePart form t t
    no-variable : {t u : Tree} (name : List ℕ) (s v s' v' : Tree) → variable_row T name ≡ None → command t ≡ variable name s v → command u ≡ variable name s' v' → AlikePart Form.Model t u
    no-function : {t u : Tree} (name x : List ℕ) (p s b p' s' b' : Tree) → function_row T name ≡ None → command t ≡ function name x p s b → command u ≡ function name x p' s' b' → AlikePart Form.Model t u
    no-pair : {t u : Tree} (name : List ℕ) (v v' : Tree) → variable_row T name ≡ None → pair t ≡ Some (pair_of name v) → pair u ≡ Some (pair_of name v') → AlikePart Form.Values t u

  pub data AlikeParts (form : Form) : Trees → Trees → Type 0 where
    no_more : AlikeParts form nil nil
    one_more : {t u : Tree} {us vs : Trees} → AlikePart form t u → AlikeParts form us vs → AlikeParts form (cons t us) (cons u vs)
