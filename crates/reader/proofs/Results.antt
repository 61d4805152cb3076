-- Any two results that the contract allows are equal.
-- Assumes nothing.
use Rattle.std.proofs.Common.{Result}
use mathlib.Core.Path.{◌≡◌}
use mathlib.Core.List.{List}
use Prim.Native.Nat.{ℕ}
use Rattle.ground.proofs.Tests.{one-result}
use Rattle.reader.specs.Read.{Left, Leaves}
use Rattle.reader.specs.declared.read.Reading.{Reading}
use Rattle.refusals.specs.declared.Refusal.{Refusal}

pub one-reading : (left : Left) (r q : Result Reading Refusal) (N N' T T' S S' : List ℕ) → Leaves left r N T S → Leaves left q N' T' S' → (r ≡ q) × (N ≡ N') × (T ≡ T') × (S ≡ S')
one-reading left r q N N' T T' S S' a b =
    (one-result a.answers b.answers, one-result a.nodes b.nodes, one-result a.text b.text, one-result a.stack b.stack)
