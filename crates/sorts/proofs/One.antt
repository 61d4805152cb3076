-- Any two results that a contract of this crate allows are equal, where a tree stands at the node.
-- Assumes nothing.
use Rattle.std.proofs.Common.{Result}
use mathlib.Core.Path.{◌≡◌, refl}
use mathlib.Core.List.{List, []}
use Prim.Native.Nat.{ℕ}
use Rattle.ground.proofs.Tests.{one-result}
use Rattle.arena.specs.Tree.{Tree}
use Rattle.tables.specs.declared.sort.Wanted.{Wanted}
use Rattle.tables.specs.Layout.{Lent}
use Rattle.shapes.specs.Shows.{Standing}
use Rattle.sorts.specs.Reads.{RowOf, ReadsSort}
use Rattle.refusals.specs.declared.Refusal.{Refusal}

-- some tables with these rows and names
abbrev lent : List ℕ → List ℕ → Lent
lent sorts names = record { sorts = sorts; fields = []; variables = []; functions = []; members = []; names = names }

pub one-row : (sorts : List ℕ) (wanted : Wanted) (r s : Result ℕ Refusal) → RowOf sorts wanted r → RowOf sorts wanted s → r ≡ s
one-row sorts wanted r s p q = one-result (p (lent sorts []) refl) (q (lent sorts []) refl)

pub one-sort-read : (sorts names ws ts : List ℕ) (i allow : ℕ) (t : Tree) (r s : Result ℕ Refusal) → Standing t ws ts i →
    ReadsSort sorts names ws ts i allow r → ReadsSort sorts names ws ts i allow s → r ≡ s
one-sort-read sorts names ws ts i allow t r s h p q = one-result (p (lent sorts names) refl refl t h) (q (lent sorts names) refl refl t h)
