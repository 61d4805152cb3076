-- Document 01, "The model walk" and "The listing": what is left where one arm is written as a record.
use Rattle.std.specs.Prelude.{◌≡◌, true, List, ℕ, None, Option, Some, Ok}
use Rattle.arena.specs.Tree.{Tree}
use Rattle.tables.specs.Layout.{Lent, tables_of}
use Rattle.tables.specs.Sort.{Tables}
use Rattle.shapes.specs.Shows.{Standing, Reads}
use Rattle.sorts.specs.Sort.{levels}
use Rattle.values.specs.Value.{Value, v_bool}
use Rattle.values.specs.Normal.{normal}
use Rattle.values.specs.HasSort.{HasSort, Loose}
use Rattle.means.specs.Literal.{Lit, read}
use Rattle.value_text.specs.Laid.{Lays}
use Rattle.value_text.specs.Value.{Given}
use Rattle.commands.specs.Command.{key}
use Rattle.model.specs.Model.{Arm, arm_of}
use Rattle.model.specs.Listing.{normal_arm}
use Rattle.arms.specs.Record.{when_text, ended}

-- an arm as an ended record, in the room of the arm as it was written
abbrev pub LaysArm : Arm → List ℕ → List ℕ → ℕ → ℕ → Type 0
LaysArm a entry exit place r = Lays (ended a) (ended (normal_arm a)) entry exit place r

module _ (sorts members names ws ts : List ℕ) (offset size : ℕ) where
  -- of what the key of the test at a node is read as, which has a sort
  abbrev pub KeyRead : ℕ → (Tables → Value → Type 0) → Type 0
  KeyRead test P =
      (l : Lent) → Given sorts members names l → (x : List ℕ) (b k : Tree) (m : Lit) (row : ℕ) → Reads x ts offset size → Standing b ws ts test → key x b ≡ Some k →
      read (tables_of l) levels None k ≡ Ok m → HasSort m.value Loose (tables_of l) row → P (tables_of l) m.value

  abbrev pub WritesWhen : ℕ → List ℕ → List ℕ → ℕ → ℕ → Type 0
  WritesWhen test entry exit place r = KeyRead test (λ T v. Lays (when_text v) (when_text (normal v)) entry exit place r)

  -- with the value at another node
  abbrev pub WritesArm : ℕ → ℕ → List ℕ → List ℕ → ℕ → ℕ → Type 0
  WritesArm test value entry exit place r =
      KeyRead test (λ T v. (c : Tree) (expected : Option ℕ) (n : Lit) (row : ℕ) → Standing c ws ts value → read T levels expected c ≡ Ok n → HasSort n.value Loose T row →
      LaysArm (arm_of v n.value) entry exit place r)

  -- one test of an `or`
  abbrev pub WritesTest : ℕ → List ℕ → List ℕ → ℕ → ℕ → Type 0
  WritesTest test entry exit place r = KeyRead test (λ T v. LaysArm (arm_of v (v_bool true)) entry exit place r)
