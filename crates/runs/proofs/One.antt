-- Any two results of bringing a run into order are equal.
-- Assumes nothing.
use mathlib.Core.Path.{◌≡◌, refl, subst, sym}
use mathlib.Core.Bool.{Bool, true}
use mathlib.Core.List.{List, ◌++◌}
use Prim.Native.Nat.{ℕ, ◌-◌}
use lib.ListN.{length, replicate}
use Rattle.ground.specs.Lists.{all}
use Rattle.ground.proofs.Tests.{one-result}
use Rattle.order.specs.Order.{arranged}
use Rattle.runs.specs.Run.{key, run, plain, Arranges}
use Rattle.runs.specs.Arrange.{ArrangedAs}

one_arranges : {last : Bool} {rs : List (List ℕ)} {entry d e : List ℕ} {r s : ℕ} → Arranges last rs entry d r → Arranges last rs entry e s → (r ≡ s) × (d ≡ e)
one_arranges {last} {rs} {entry} {d} {e} {r} {s} p q =
    let same : r ≡ s = one-result p.long q.long in (
      same,
      one-result p.bytes (subst (λ (n : ℕ). e ≡ run (arranged key last rs) ++ replicate (length entry - n) 0) (sym same) q.bytes),
    )

-- of bytes that are a run of records
pub one-arranged : (last : Bool) (rs : List (List ℕ)) (d e : List ℕ) (r s : ℕ) → all plain rs ≡ true → ArrangedAs last (run rs) d r → ArrangedAs last (run rs) e s → (r ≡ s) × (d ≡ e)
one-arranged last rs d e r s h p q = one_arranges (p rs h refl) (q rs h refl)
