-- Where the text of a node begins: behind the texts of the nodes before it.
-- Assumes nothing.
use mathlib.Core.Path.{◌≡◌, refl, ap, ◌∙◌, subst}
use mathlib.Core.List.{List}
use Prim.Native.Nat.{ℕ, zero, suc, ◌+◌, ◌≤◌, ◌<◌}
use native.Mathlib.Numerals.{add-one}
use native.Mathlib.Omega.{arith}
use lib.ListN.{length}
use Rattle.ground.proofs.Tests.{by_order}
use Rattle.arena.specs.declared.node.Node.{Node}
use Rattle.arena.specs.declared.node.Node.TheVariants.{BitVec, Numeral, String, Symbol, App, NoNode}
use Rattle.arena.specs.Node.{node_at}
use Rattle.arena_check.specs.Right.{Right, takes}

pub offset : List ℕ → ℕ → ℕ
offset ws zero = 0
offset ws (suc i) = offset ws i + takes (node_at ws i)

pub offset-start : (ws : List ℕ) → 0 ≡ offset ws 0
unfolding offset
offset-start ws = refl

pub offset-next : (ws : List ℕ) (i : ℕ) → offset ws (i + 1) ≡ offset ws i + takes (node_at ws i)
unfolding offset
offset-next ws i = ap (offset ws) (add-one i)

-- the offset behind a node of which an equation tells
pub offset-behind : (ws : List ℕ) (i : ℕ) {n : Node} → node_at ws i ≡ n → offset ws (i + 1) ≡ offset ws i + takes n
offset-behind ws i e = offset-next ws i ∙ ap (λ (n : Node). offset ws i + takes n) e

abbrev pub RightAt : List ℕ → List ℕ → ℕ → Type 0
RightAt ws ts i = Right (node_at ws i) ws ts i (offset ws i)

-- the nodes before i are right
abbrev pub RightTo : List ℕ → List ℕ → ℕ → Type 0
RightTo ws ts i = (m : ℕ) → m < i → RightAt ws ts m

pub right-none : (ws ts : List ℕ) → RightTo ws ts 0
right-none ws ts m h = absurd (omega arith)

pub right-more : (ws ts : List ℕ) (i : ℕ) → RightTo ws ts i → RightAt ws ts i → RightTo ws ts (i + 1)
right-more ws ts i r h m l =
    by_order m i (r m) (λ k. let e : i ≡ m = omega arith in subst (RightAt ws ts) e h)

-- so far as the nodes are right, their texts lie within the bytes
taken-within : (n : Node) (ws ts : List ℕ) (i x : ℕ) → Right n ws ts i x → x ≤ length ts → x + takes n ≤ length ts
taken-within (BitVec width low high) ws ts i x r h = omega arith
taken-within (Numeral low high) ws ts i x r h = omega arith
taken-within (String size from) ws ts i x r h = r.within
taken-within (Symbol size from) ws ts i x r h = r.within
taken-within (App children end) ws ts i x r h = omega arith
taken-within NoNode ws ts i x r h = absurd r

pub offset-within : (ws ts : List ℕ) (i : ℕ) → RightTo ws ts i → offset ws i ≤ length ts
unfolding offset
offset-within ws ts zero r = omega arith
offset-within ws ts (suc i) r =
    taken-within (node_at ws i) ws ts i (offset ws i) (r i (omega arith)) (offset-within ws ts i (λ m h. r m (omega arith)))
