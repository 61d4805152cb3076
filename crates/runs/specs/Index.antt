-- Document 01, "The listing": the places of records, arranged by the keys that stand there.
use Rattle.std.specs.Prelude.{◌≡◌, Bool, true, false, List, [], ◌∷◌, ◌++◌, ℕ, suc, ◌+◌, ◌≤◌, length, take, drop}
use Rattle.order.specs.Order.{before, arranged}
use Rattle.order.specs.Merge.{inserts}
use Rattle.order.specs.Every.{Every, Ascends}
use Rattle.runs.specs.Run.{run}
use Rattle.runs.specs.Piece.{key_at, pieces}
use Rattle.runs.specs.Place.{Plain}
use Rattle.runs.specs.Pair.{pairs, places, base}

-- where the records of a run begin, the first at a place
unfoldable pub starts : ℕ → List (List ℕ) → List ℕ
starts p [] = []
starts p (r ∷ rs) = p ∷ starts (p + suc (length r)) rs

-- how many of the first n places in an index have a key before that at p
pub record Found (s index : List ℕ) (n p r : ℕ) : Type 0 where
  pub within : r ≤ n
  pub low : Ascends (key_at s) (take n index) → Every (λ q. before (key_at s q) (key_at s p) ≡ true) (take r index)
  pub high : Ascends (key_at s) (take n index) → Every (λ q. before (key_at s q) (key_at s p) ≡ false) (drop r (take n index))

-- one more place put in at a number
pub record Inserted (entry exit : List ℕ) (at n p : ℕ) : Type 0 where
  pub holds : take (n + 1) exit ≡ take at entry ++ (p ∷ drop at (take n entry))

-- one more place put among the others by its key
pub record Settled (last : Bool) (s entry exit : List ℕ) (n p r : ℕ) : Type 0 where
  pub within : r ≤ n + 1
  pub holds : Ascends (key_at s) (take n entry) → take r exit ≡ inserts (key_at s) last (take n entry) (p ∷ [])

-- all places of a run's records, arranged, so many
pub record Listed (last : Bool) (s exit : List ℕ) (r : ℕ) : Type 0 where
  pub within : r ≤ places
  pub holds : (rs : List (List ℕ)) → Plain rs → s ≡ run rs → take r exit ≡ arranged (key_at s) last (starts 0 rs)

-- the pieces at the first n places of a buffer, written behind all places, so many bytes
pub record Wrote (s entry : List ℕ) (n : ℕ) (exit : List ℕ) (r : ℕ) : Type 0 where
  pub within : base + r ≤ length exit
  pub holds : take r (drop base exit) ≡ pieces s (take n (pairs entry))
