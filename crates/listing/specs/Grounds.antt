-- Document 01, "The model walk", and document 02, R-1: what a definition that is noted stands on: a variable's value at its node, a function's command at its.
use Rattle.std.specs.Prelude.{◌≡◌, true, List, [], ◌∷◌, ℕ, ◌^◌, ◌<◌, Option, Ok}
use Rattle.order.specs.Every.{Every}
use Rattle.arena.specs.Tree.{Tree}
use Rattle.tables.specs.Layout.{Lent, tables_of}
use Rattle.tables.specs.Rules.{lawful}
use Rattle.shapes.specs.Shows.{Standing}
use Rattle.sorts.specs.Sort.{levels}
use Rattle.values.specs.HasSort.{HasSort, Loose}
use Rattle.values.specs.Value.{Value}
use Rattle.means.specs.Literal.{Lit, read}
use Rattle.well_sorted.specs.Octets.{Octets}
use Rattle.commands.specs.Command.{command}
use Rattle.model.specs.Model.{Table, Definition, is_variable, is_function, read_command}
use Rattle.walk.specs.Last.{Kept}
use Rattle.walk.specs.Noted.{size}
use Rattle.walk.specs.Placed.{Placed, Within}

module _ (l : Lent) (ws ts : List ℕ) where
  -- the tree at the node reads as the value, which has its sort
  pub record ValueStands (v : Value) (node : ℕ) : Type 0 where
    pub tree : Tree
    pub there : Standing tree ws ts node
    pub expected : Option ℕ
    pub lit : Lit
    pub reads : read (tables_of l) levels expected tree ≡ Ok lit
    pub same : lit.value ≡ v
    pub fits : HasSort lit.value Loose (tables_of l) lit.row

  -- the tree at the node is a command that gives the row its table
  pub record TableStands (row : ℕ) (t : Table) (node : ℕ) : Type 0 where
    pub tree : Tree
    pub there : Standing tree ws ts node
    pub octets : Octets tree
    pub reads : read_command (tables_of l) (command tree) ≡ Ok (is_function row t ∷ [])

  abbrev pub Stands : Definition → ℕ → ℕ → Type 0
  Stands (is_variable row v) node value = ValueStands v value
  Stands (is_function row t) node value = TableStands row t node

  pub record Grounded (p : Placed) : Type 0 where
    pub no_root : 0 < p.node
    pub within : Within (tables_of l) p.it
    pub small : size p.it < 2 ^ 42
    pub stands : Stands p.it p.node p.value

  -- the words hold the last one of each name, over tables that passed the check of 25
  pub record Known (last : List ℕ) (ps : List Placed) : Type 0 where
    pub rules : lawful (tables_of l) ≡ true
    pub kept : Kept l ps last
    pub grounded : Every Grounded ps
