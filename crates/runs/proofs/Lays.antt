-- Records moved, each up to its end.
-- Assumes nothing.
use mathlib.Core.Path.{◌≡◌, ap, subst}
use mathlib.Core.List.{List}
use Prim.Native.Nat.{ℕ, ◌+◌, ◌-◌, ◌≤◌}
use native.Mathlib.Omega.{arith}
use lib.ListN.{length, take, drop}
use Rattle.lent.specs.Put.{Puts, Offers}
use Rattle.runs.specs.Piece.{piece}
use Rattle.runs.specs.Place.{Ended}
use Rattle.runs.proofs.Pieces.{ended-taken, piece-within}

pub laid : (a : List ℕ) (i e : ℕ) (s s' : List ℕ) (w next : ℕ) → Ended a i e → (i ≤ length a) × (w + (length a - i) ≤ length s) → Offers s s' w (take (e - i) (drop i a)) next
    → Puts s s' w (piece (drop i a)) next
laid a i e s s' w next h r o =
    let t : take (e - i) (drop i a) ≡ piece (drop i a) = ended-taken a i e h in
    subst (λ (x : List ℕ). Puts s s' w x next) t (o (omega (arith, r.1, ap length t, piece-within a i)))

pub slid : (s s' : List ℕ) (j e w next : ℕ) → Ended s j e → Puts s s' w (take (e - j) (drop j s)) next → Puts s s' w (piece (drop j s)) next
slid s s' j e w next h p = subst (λ (x : List ℕ). Puts s s' w x next) (ended-taken s j e h) p
