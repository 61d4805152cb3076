-- Document 01, "The listing": what bringing a run into order answers and leaves, whatever records it is the run of.
use Rattle.std.specs.Prelude.{◌≡◌, Bool, true, List, ℕ}
use Rattle.ground.specs.Lists.{all}
use Rattle.runs.specs.Run.{run, plain, Arranges}

abbrev pub ArrangedAs : Bool → List ℕ → List ℕ → ℕ → Type 0
ArrangedAs last entry exit r = (rs : List (List ℕ)) → all plain rs ≡ true → entry ≡ run rs → Arranges last rs entry exit r
