-- Document 01, "The listing" and "The model walk": records in order: a prefix first, one of each key, the last or the first.
use Rattle.std.specs.Prelude.{◌≡◌, refl, true, false, List, [], ◌∷◌, ℕ}
use Rattle.ground.specs.Bytes.{bytes}
use Rattle.order.specs.Order.{before, insert, arranged}
use Rattle.runs.specs.Run.{key}

abbrev records : List (List ℕ)
records = bytes "ab\n1" ∷ bytes "b\n2" ∷ bytes "a\n3" ∷ bytes "ab\n4" ∷ []

last-stays : arranged key true records ≡ bytes "a\n3" ∷ bytes "ab\n4" ∷ bytes "b\n2" ∷ []
unfolding arranged insert before key
last-stays = refl

first-stays : arranged key false records ≡ bytes "a\n3" ∷ bytes "ab\n1" ∷ bytes "b\n2" ∷ []
unfolding arranged insert before key
first-stays = refl
