-- Document 01, "What changes shape": `BTreeMap` and `BTreeSet` become ordered runs of bytes. A record of a run is its key and
-- what hangs on it, ended by a byte that it has nowhere else.
use Rattle.std.specs.Prelude.{◌≡◌, Bool, cond, not, List, [], ◌∷◌, ◌++◌, ℕ, ◌-◌, eqb, length, replicate}
use Rattle.ground.specs.Lists.{all}
use Rattle.order.specs.Order.{arranged}

-- the byte after a record
abbrev pub end : ℕ
end = 0

-- the byte after a key that something hangs on
abbrev pub stop : ℕ
stop = 10

-- the bytes of a record up to its stop, or all
unfoldable pub key : List ℕ → List ℕ
key [] = []
key (b ∷ bs) = cond (eqb b stop) [] (b ∷ key bs)

-- the records one after the other, each ended
unfoldable pub run : List (List ℕ) → List ℕ
run [] = []
run (r ∷ rs) = r ++ (end ∷ run rs)

-- bytes without an end, so that a run tells its records
abbrev pub plain : List ℕ → Bool
plain r = all (λ b. not (eqb b end)) r

-- what is answered and left where the bytes are a run: the arranged records' run, and 0 in what is freed
pub record Arranges (last : Bool) (rs : List (List ℕ)) (entry exit : List ℕ) (r : ℕ) : Type 0 where
  pub long : r ≡ length (run (arranged key last rs))
  pub bytes : exit ≡ run (arranged key last rs) ++ replicate (length entry - r) 0
