-- Document 01, "The listing", arms ascending by the bytes of the key's text: a run of arms as their lines, in its place.
use Rattle.std.specs.Prelude.{◌≡◌, true, List, ℕ, length, take}
use Rattle.ground.specs.Lists.{all}
use Rattle.moves.specs.Replace.{replaced}
use Rattle.order.specs.Order.{arranged}
use Rattle.runs.specs.Run.{end, stop, key, run, plain}
use Rattle.tables.specs.Sort.{Tables}
use Rattle.model.specs.Model.{Table}
use Rattle.model.specs.Listing.{arm_lines, settled_table}
use Rattle.demand.specs.Fits.{TableFits}
use Rattle.value_text.specs.Laid.{Lays}
use Rattle.arms.specs.Walk.{LaysArms}

-- the records in order, the last of each key, a line end behind each
pub record Lined (rs : List (List ℕ)) (exit : List ℕ) (r : ℕ) : Type 0 where
  pub long : r ≡ length (run (arranged key true rs))
  pub front : take r exit ≡ replaced end stop (run (arranged key true rs))

abbrev pub Lines : List ℕ → List ℕ → ℕ → Type 0
Lines entry exit r = (rs : List (List ℕ)) → all plain rs ≡ true → entry ≡ run rs → Lined rs exit r

-- where the arms of a table were laid as a run, up to a place, their lines are
abbrev pub Settles : List ℕ → List ℕ → ℕ → ℕ → ℕ → Type 0
Settles entry exit start behind r =
    (T : Tables) (argument result : ℕ) (table : Table) → TableFits T argument result table → (a : List ℕ) → LaysArms table.arms a entry start behind →
    Lays (arm_lines table.arms) (arm_lines (settled_table table).arms) a exit start r
