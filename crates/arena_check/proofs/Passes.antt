-- One node passed over, kind by kind.
-- Assumes nothing.
use Rattle.std.proofs.Common.{None, Option, Some}
use mathlib.Core.Path.{◌≡◌, refl, sym, subst}
use mathlib.Core.Bool.{Bool, true}
use Rattle.std.specs.Bool.{then_some}
use mathlib.Core.List.{List}
use Prim.Native.Nat.{ℕ, ◌+◌, ◌*◌, ◌^◌}
use native.Mathlib.Omega.{arith}
use Rattle.arena.specs.declared.node.Node.{Node}
use Rattle.arena.specs.declared.node.Node.TheVariants.{BitVec, Numeral, App, NoNode}
use Rattle.arena.specs.Tree.{BitVector}
use Rattle.arena.specs.Node.{node_at}
use Rattle.arena_check.specs.Right.{Tells, Steps, StepsAt, Right, takes, Chain, Words, Vector}
use Rattle.arena_check.proofs.Told.{tells-yes, stays, steps_wrong}

-- a node with no text leaves the offset
kept : {P : Type 0} (x : ℕ) (t : Bool) (r : Option ℕ) → r ≡ then_some t x → Tells P t → Steps P (x + 0) r
kept {P} x t r e h =
    let same : x ≡ x + 0 = omega arith in
    subst (Steps P (x + 0)) (sym e) (subst (λ (n : ℕ). Steps P n (then_some t x)) same (stays x t h))

vector-told : {w l h : ℕ} {t : Bool} → Words l h → Tells (BitVector w (l + h * 2 ^ 64)) t → Tells (Vector w l h) t
vector-told f b = record {
  yes = λ e. record { number = f; sound = b.yes e };
  no = λ e v. b.no e v.sound;
}

module _ (ws ts : List ℕ) (i x : ℕ) where
  pub passes : {n : Node} (r : Option ℕ) → node_at ws i ≡ n → Steps (Right n ws ts i x) (x + takes n) r → StepsAt ws ts i x r
  passes r q s = subst (λ (n : Node). Steps (Right n ws ts i x) (x + takes n) r) (sym q) s

  pub passes-vector : {w l h : ℕ} (t : Bool) (r : Option ℕ) → node_at ws i ≡ BitVec w l h → Words l h
      → Tells (BitVector w (l + h * 2 ^ 64)) t → r ≡ then_some t x → StepsAt ws ts i x r
  passes-vector t r q f b e = passes r q (kept x t r e (vector-told f b))

  pub passes-numeral : {l h : ℕ} → node_at ws i ≡ Numeral l h → Words l h → StepsAt ws ts i x (Some x)
  passes-numeral q f = passes (Some x) q (kept x true (Some x) refl (tells-yes f))

  pub passes-app : {c e : ℕ} (t : Bool) (r : Option ℕ) → node_at ws i ≡ App c e
      → Tells (Chain c ws (i + 1) e) t → r ≡ then_some t x → StepsAt ws ts i x r
  passes-app t r q b e = passes r q (kept x t r e b)

  pub passes_none : node_at ws i ≡ NoNode → StepsAt ws ts i x None
  passes_none q = passes None q (steps_wrong (λ r. r))
