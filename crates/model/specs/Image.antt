-- Document 02, R-1: the model that says of the variables what a list of pairs says of them: (define-fun NAME () SORT VALUE) for each pair,
-- SORT being any that is read as the row which the table gives the name.
use Rattle.std.specs.Prelude.{◌≡◌, List, ℕ, Some, Ok}
use Rattle.ground.specs.Lists.{at}
use Rattle.arena.specs.Tree.{Tree, Trees, nil, cons}
use Rattle.tables.specs.Find.{variable_row}
use Rattle.tables.specs.Sort.{Variable, Tables}
use Rattle.sorts.specs.Sort.{read_sort, levels}
use Rattle.commands.specs.Command.{variable, command}
use Rattle.commands.specs.Pair.{pair_of, pair}

module _ (T : Tables) where
  -- where the name has a row
  abbrev pub Declares : List ℕ → Tree → Type 0
  Declares name sort = (i : ℕ) (x : Variable) → variable_row T name ≡ Some i → at T.variables i ≡ Some x → read_sort T levels sort ≡ Ok x.sort

  pub data Image : Trees → Trees → Type 0 where
    no_more : Image nil nil
    one_more : {t u : Tree} {us vs : Trees} (name : List ℕ) (sort value : Tree) → pair t ≡ Some (pair_of name value) → command u ≡ variable name sort value → Declares name sort → Image us vs →
        Image (cons t us) (cons u vs)
