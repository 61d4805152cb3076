-- Document 01, "The listing", `{a,b}` ascending by bytes without repeats: a run of members as what stands behind the first brace.
use Rattle.std.specs.Prelude.{◌≡◌, true, List, ◌∷◌, ◌++◌, ℕ, length, take}
use Rattle.ground.specs.Bytes.{bytes}
use Rattle.ground.specs.Lists.{all, joined}
use Rattle.order.specs.Order.{arranged}
use Rattle.runs.specs.Run.{key, run, plain}

-- a comma between two, and the brace
abbrev pub closed : List (List ℕ) → List ℕ
closed rs = joined (bytes ",") rs ++ bytes "}"

pub record Closed (rs : List (List ℕ)) (exit : List ℕ) (r : ℕ) : Type 0 where
  pub long : r ≡ length (closed (arranged key true rs))
  pub front : take r exit ≡ closed (arranged key true rs)

-- where the bytes are the run of a first record and others
abbrev pub Closes : List ℕ → List ℕ → ℕ → Type 0
Closes entry exit r = (first : List ℕ) (others : List (List ℕ)) → all plain (first ∷ others) ≡ true → entry ≡ run (first ∷ others) → Closed (first ∷ others) exit r
