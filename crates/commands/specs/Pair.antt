-- Document 01, "The model walk", (ARG SORT), and document 02, R-1, (NAME VALUE): a list of two whose first is a symbol.
use Rattle.std.specs.Prelude.{List, ℕ, None, Option, Some}
use Rattle.arena.specs.Tree.{Tree, Trees, nil, cons}
use Rattle.shapes.specs.Shape.{on_symbol, on_app}

pub record Pair : Type 0 where
  pub name : List ℕ
  pub second : Tree

abbrev pub pair_of : List ℕ → Tree → Pair
pair_of name t = record { name = name; second = t }

abbrev pub two : Trees → Option Pair
two nil = None
two (cons a nil) = None
two (cons a (cons t nil)) = on_symbol a None (λ name. Some (pair_of name t))
two (cons a (cons t (cons u us))) = None

abbrev pub pair : Tree → Option Pair
pair t = on_app t None two
