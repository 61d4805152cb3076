-- Any two results that an opening bracket's contract allows are equal.
-- Assumes nothing.
use mathlib.Core.Path.{◌≡◌}
use mathlib.Core.List.{List}
use Prim.Native.Nat.{ℕ}
use Rattle.ground.proofs.Tests.{one-result}
use Rattle.brackets.specs.Put.{Opened}

pub one-opened : {n d : ℕ} {N P Q S U W : List ℕ} → Opened n d N P S U → Opened n d N Q S W → (P ≡ Q) × (U ≡ W)
one-opened p q = (one-result p.nodes q.nodes, one-result p.stack q.stack)
