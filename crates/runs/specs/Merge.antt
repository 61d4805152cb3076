-- Document 01, "The listing": what making one run of two leaves, and what bringing one into order leaves.
use Rattle.std.specs.Prelude.{◌≡◌, Bool, true, false, List, ◌++◌, ℕ, ◌+◌, ◌≤◌, ◌<◌, length, take, drop, Option, Some, None}
use Rattle.order.specs.Order.{arranged}
use Rattle.order.specs.Merge.{inserts}
use Rattle.order.specs.Every.{Ascends}
use Rattle.runs.specs.Run.{key, run}
use Rattle.runs.specs.Piece.{piece}
use Rattle.runs.specs.Place.{Plain}
use Rattle.runs.specs.declared.merges.Places.{Places}

-- bytes at the front, so many; what is behind them is not said
pub record Front (exit : List ℕ) (r : ℕ) (bs : List ℕ) : Type 0 where
  pub long : r ≡ length bs
  pub bytes : take r exit ≡ bs

-- two runs, of which the first has k bytes, and which make one
pub record Two (last : Bool) (entry : List ℕ) (k : ℕ) (whole : List ℕ) : Type 0 where
  pub us : List (List ℕ)
  pub bs : List (List ℕ)
  pub plain-us : Plain us
  pub plain-bs : Plain bs
  pub rise-us : Ascends key us
  pub rise-bs : Ascends key bs
  pub parts : entry ≡ run us ++ run bs
  pub seam : k ≡ length (run us)
  pub makes : run (inserts key last us bs) ≡ whole

-- what a merge leaves
pub record Merged (last : Bool) (k : ℕ) (entry exit : List ℕ) (r : ℕ) : Type 0 where
  pub within : r ≤ length entry
  pub made : (whole : List ℕ) → Two last entry k whole → Front exit r whole

-- two runs that meet in one key are closed up over the one record or over the other
pub record Met (last : Bool) (entry : List ℕ) (p k : ℕ) (exit : List ℕ) (r : ℕ) : Type 0 where
  pub within : r ≤ length entry
  pub later : last ≡ true → Front exit r (take p entry ++ drop k entry)
  pub earlier : last ≡ false → Front exit r (take k entry ++ drop (k + length (piece (drop k entry))) entry)

-- what is still to be merged: of the one run from i on, of the other from j on, to be written from w on
pub record Left (last : Bool) (a s : List ℕ) (i j w : ℕ) (whole : List ℕ) : Type 0 where
  pub us : List (List ℕ)
  pub bs : List (List ℕ)
  pub plain-us : Plain us
  pub plain-bs : Plain bs
  pub rise-us : Ascends key us
  pub rise-bs : Ascends key bs
  pub first : drop i a ≡ run us
  pub second : drop j s ≡ run bs
  pub makes : take w s ++ run (inserts key last us bs) ≡ whole

-- places in two runs and in what is made of them, where the writing does not pass the reading
pub record Apart (a s : List ℕ) (i j w : ℕ) : Type 0 where
  pub first : i ≤ length a
  pub second : j ≤ length s
  pub behind : w + length a ≤ i + j

-- one record more is merged, or left out
pub record Turned (last : Bool) (a entry exit : List ℕ) (i j w : ℕ) (r : Places) : Type 0 where
  pub apart : Apart a entry r.a r.b r.to
  pub falls : i + j < r.a + r.b
  pub left : (whole : List ℕ) → Left last a entry i j w whole → Left last a exit r.a r.b r.to whole

-- two runs in two buffers made one
pub record Knitted (last : Bool) (a entry exit : List ℕ) (r : ℕ) : Type 0 where
  pub within : r ≤ length entry
  pub made : (whole : List ℕ) → Left last a entry 0 (length a) 0 whole → Front exit r whole

-- what a sort leaves
pub record Sorted (last : Bool) (entry exit : List ℕ) (r : ℕ) : Type 0 where
  pub within : r ≤ length entry
  pub made : (rs : List (List ℕ)) → Plain rs → entry ≡ run rs → Front exit r (run (arranged key last rs))

-- the same, or nothing done
abbrev pub Tried : Bool → List ℕ → List ℕ → Option ℕ → Type 0
Tried last entry exit None = exit ≡ entry
Tried last entry exit (Some r) = Sorted last entry exit r
