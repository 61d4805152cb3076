-- Document 01, "What changes shape": where in a run its records begin and end.
use Rattle.std.specs.Prelude.{◌≡◌, true, false, List, ◌++◌, ℕ, ◌+◌, ◌-◌, ◌≤◌, ◌<◌, length, drop, get_or}
use Rattle.order.specs.Order.{before}
use Rattle.order.specs.Every.{Every, Ascends}
use Rattle.runs.specs.Run.{end, key, run, plain}
use Rattle.runs.specs.Piece.{piece, key_at}

-- records that a run tells apart
abbrev pub Plain : List (List ℕ) → Type 0
Plain rs = Every (λ r. plain r ≡ true) rs

-- the place after the record at a place
pub record Ended (s : List ℕ) (p r : ℕ) : Type 0 where
  pub same : r ≡ p + length (piece (drop p s))
  pub within : r ≤ length s

-- the place where the record that holds a byte begins, looked for down to a place
pub record Begun (s : List ℕ) (from at r : ℕ) : Type 0 where
  pub least : from ≤ r
  pub most : r ≤ at
  pub edge : from < r → get_or s (r - 1) 0 ≡ end
  pub reach : at < length s → at < r + length (piece (drop r s))

-- a place inside the first k bytes where a record begins, and 0 only where the first record has them all
pub record Halved (s : List ℕ) (k r : ℕ) : Type 0 where
  pub less : r < k
  pub edge : 0 < r → get_or s (r - 1) 0 ≡ end
  pub one : r ≡ 0 → k ≤ length (piece s)

-- a place that parts records into those before a key and the others
pub record Parted (bs : List (List ℕ)) (word : List ℕ) (from r : ℕ) : Type 0 where
  pub ones : List (List ℕ)
  pub twos : List (List ℕ)
  pub parts : bs ≡ ones ++ twos
  pub place : r ≡ from + length (run ones)
  pub low : Every (λ b. before (key b) word ≡ true) ones
  pub high : Every (λ b. before (key b) word ≡ false) twos

-- the first place from `from` on whose record is not before the one at x
pub record Lower (s : List ℕ) (x from r : ℕ) : Type 0 where
  pub within : r ≤ length s
  pub least : from ≤ r
  pub parted : (bs : List (List ℕ)) → Plain bs → Ascends key bs → drop from s ≡ run bs → Parted bs (key_at s x) from r

-- a place, as far from p as another one is from q, up to which two keys have the same bytes
pub record Skipped (a b : List ℕ) (p q r : ℕ) : Type 0 where
  pub up : p ≤ r
  pub room : p < r → q + (r - p) ≤ length b
  pub same : before (key_at a r) (key_at b (q + (r - p))) ≡ before (key_at a p) (key_at b q)
