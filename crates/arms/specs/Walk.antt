-- Document 01, "The model walk": what is left where all arms of a body are written as the records of a run.
use Rattle.std.specs.Prelude.{◌≡◌, List, map, ℕ, Some, Ok}
use Rattle.arena.specs.Tree.{Tree, Trees}
use Rattle.tables.specs.Layout.{Lent, tables_of}
use Rattle.tables.specs.Sort.{Tables}
use Rattle.shapes.specs.Shows.{Standing, StandingAll, Reads}
use Rattle.sorts.specs.Sort.{levels}
use Rattle.values.specs.Value.{Value}
use Rattle.means.specs.Literal.{Lit, read}
use Rattle.commands.specs.Command.{chain}
use Rattle.model.specs.Model.{Arm, Table, read_chain, read_tests}
use Rattle.model.specs.Listing.{normal_arm}
use Rattle.demand.specs.Fits.{TableFits}
use Rattle.value_text.specs.Laid.{Lays}
use Rattle.value_text.specs.Value.{Given}
use Rattle.arms.specs.Record.{arm_run}
use Rattle.arms.specs.declared.chain.Chained.{Chained}

abbrev pub LaysArms : List Arm → List ℕ → List ℕ → ℕ → ℕ → Type 0
LaysArms arms entry exit place r = Lays (arm_run arms) (arm_run (map normal_arm arms)) entry exit place r

-- the value that is read at a node as one of a sort
pub record ReadThere (T : Tables) (ws ts : List ℕ) (row i : ℕ) (v : Value) : Type 0 where
  pub tree : Tree
  pub stands : Standing tree ws ts i
  pub lit : Lit
  pub was : read T levels (Some row) tree ≡ Ok lit
  pub is : lit.value ≡ v

pub record Chains (T : Tables) (ws ts : List ℕ) (result : ℕ) (table : Table) (entry exit : List ℕ) (place : ℕ) (r : Chained) : Type 0 where
  pub arms : LaysArms table.arms entry exit place r.place
  pub default : ReadThere T ws ts result r.node table.«else»

module _ (sorts members names ws ts : List ℕ) (offset size : ℕ) where
  abbrev pub WritesChain : ℕ → List ℕ → List ℕ → ℕ → Chained → Type 0
  WritesChain body entry exit place r =
      (l : Lent) → Given sorts members names l → (x : List ℕ) (t : Tree) (argument result : ℕ) (table : Table) → Reads x ts offset size → Standing t ws ts body →
      read_chain (tables_of l) x argument result (chain t) ≡ Ok table → TableFits (tables_of l) argument result table →
      Chains (tables_of l) ws ts result table entry exit place r

  abbrev pub WritesTests : ℕ → ℕ → List ℕ → List ℕ → ℕ → ℕ → Type 0
  WritesTests first many entry exit place r =
      (l : Lent) → Given sorts members names l → (x : List ℕ) (us : Trees) (argument result : ℕ) (table : Table) → Reads x ts offset size → StandingAll us ws ts first many →
      read_tests (tables_of l) x argument result us ≡ Ok table → TableFits (tables_of l) argument result table →
      LaysArms table.arms entry exit place r
