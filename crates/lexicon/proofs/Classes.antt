-- The rule of the class table: the entry of a byte is the byte's class.
-- Assumes nothing.
use mathlib.Core.Path.{◌≡◌, ap, ◌∙◌}
use mathlib.Core.List.{List}
use Prim.Native.Nat.{ℕ, zero, suc, ◌+◌, ◌<◌}
use native.Mathlib.Omega.{arith}
use lib.ListN.{get_or}
use Rattle.lexicon.specs.Class.{class_of, tabled, classes}

tabled-at : (rule : ℕ → ℕ) (n k i : ℕ) → i < n → get_or (tabled rule n k) i 0 ≡ rule (k + i)
unfolding tabled
tabled-at rule zero k i h = absurd (omega arith)
tabled-at rule (suc n) k zero h = ap rule (omega arith)
tabled-at rule (suc n) k (suc i) h = tabled-at rule n (suc k) i (omega arith) ∙ ap rule (omega arith)

pub class_at : (b : ℕ) → b < 256 → get_or classes b 0 ≡ class_of b
unfolding classes
class_at b h = tabled-at class_of 256 0 b h ∙ ap class_of (omega arith)

pub entry_at : (table : List ℕ) (b : ℕ) → table ≡ classes → b < 256 → get_or table b 0 ≡ class_of b
entry_at table b e h = rw e (class_at b h)
