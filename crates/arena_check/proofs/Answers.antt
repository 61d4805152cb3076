-- The answers of the check, and that no words and text have two.
-- Assumes nothing.
use Rattle.std.proofs.Common.{Err, Ok, Result}
use mathlib.Core.Path.{◌≡◌, refl, sym, ap, ◌∙◌, subst, subst₂, subst₃}
use mathlib.Core.List.{List}
use Prim.Native.Nat.{ℕ, ◌≤◌, ◌<◌}
use native.Mathlib.Omega.{arith}
use lib.ListN.{length}
use Rattle.ground.proofs.Options.{ok-same}
use Rattle.refusals.specs.declared.Refusal.TheVariants.{BadArena}
use Rattle.arena.specs.Tree.{Tree, nodes, text, most_nodes, most_text, Sound}
use Rattle.arena.specs.Arena.{Arena}
use Rattle.arena.specs.Node.{node_at, after_at}
use Rattle.arena.specs.Stands.{TreeStands}
use Rattle.arena.proofs.Layouts.{nodes-some, stands_after, stands_lays}
use Rattle.arena.proofs.Arenas.{arena-stands, stands-arena, one-arena}
use Rattle.arena_check.specs.Checks.{Checks}
use Rattle.arena_check.specs.Right.{Right}
use Rattle.arena_check.proofs.Offsets.{offset, offset-start, RightTo}
use Rattle.arena_check.proofs.Builds.{all_built}
use Rattle.arena_check.proofs.Insides.{tree-offset, inside}
use Rattle.arena_check.specs.declared.Checked.{Checked}
use Rattle.refusals.specs.declared.Refusal.{Refusal}

module _ (ws ts : List ℕ) where
  refuses : ((t : Tree) → Arena ws ts t → ⊥) → Checks ws ts (Err BadArena)
  refuses f = record {
    found = λ t a. absurd (f t a);
    none = λ g. refl;
    tree = λ n k e. let z : ◌≡◌ {A = ℕ} 0 1 = cc in absurd (omega arith);
    refused = λ e q. f;
  }

  accepts : (t : Tree) → Arena ws ts t → Checks ws ts (Ok (record { nodes = nodes t; text = length (text t) }))
  accepts t a = record {
    found = λ u b. ap (λ (v : Tree). (Ok (record { nodes = nodes v; text = length (text v) }))) (one-arena ws ts t u a b);
    none = λ f. absurd (f t a);
    tree = λ n k e. (t, a, ap (λ (c : Checked). c.nodes) (sym (ok-same e)), ap (λ (c : Checked). c.text) (sym (ok-same e)));
    refused = λ e q. let z : ◌≡◌ {A = ℕ} 0 1 = cc in absurd (omega arith);
  }

  -- what an arena says of the root's end and of the text before it
  module _ (t : Tree) (a : Arena ws ts t) where
    ends : nodes t ≡ after_at ws 0
    ends = stands_after ws ts t 0 (nodes t) 0 (length (text t)) (arena-stands ws ts t a)

    offsets : length (text t) ≡ offset ws (nodes t)
    offsets = tree-offset ws ts t 0 (nodes t) 0 (length (text t)) (arena-stands ws ts t a) (offset-start ws)

    all_right : RightTo ws ts (nodes t)
    all_right k h =
        inside ws ts t 0 (nodes t) 0 (length (text t)) k (arena-stands ws ts t a) a.sound (offset-start ws) (omega arith) h

  stood : (t : Tree) (j y : ℕ) → TreeStands t ws ts 0 j 0 y → Sound t → j ≤ most_nodes → y ≤ most_text → Checks ws ts (Ok (record { nodes = j; text = y }))
  stood t j y s sound few short =
      let l = stands_lays ws ts t 0 j 0 y s in
      let n = l.next in
      let x = l.rest in
      let a : nodes t ≡ j = omega arith in
      let b : length (text t) ≡ y = omega arith in
      subst₂ (λ (n k : ℕ). Checks ws ts (Ok (record { nodes = n; text = k }))) a b (accepts t (stands-arena ws ts t j y s few short sound))

  module _ (end : ℕ) (e : end ≡ after_at ws 0) where
    pub no_root : end ≡ 0 → Checks ws ts (Err BadArena)
    no_root z = refuses (λ t a. let q = ends t a in let n = nodes-some t in omega arith)

    pub too_many : most_nodes < end → Checks ws ts (Err BadArena)
    too_many h = refuses (λ t a. let q = ends t a in let n = a.few in omega arith)

    pub node-wrong : (k x : ℕ) → k < end → x ≡ offset ws k → (Right (node_at ws k) ws ts k x → ⊥) → Checks ws ts (Err BadArena)
    node-wrong k x h o f =
        refuses (λ t a. let q = ends t a in f (subst (Right (node_at ws k) ws ts k) (sym o) (all_right t a k (omega arith))))

    module _ (x : ℕ) (o : x ≡ offset ws end) where
      pub too_long : most_text < x → Checks ws ts (Err BadArena)
      too_long h =
          refuses (λ t a.
          let s = a.short in
          let q : length (text t) ≡ x = offsets t a ∙ ap (offset ws) (ends t a ∙ sym e) ∙ sym o in
          omega arith)

      pub whole-tree : (end ≡ 0 → ⊥) → end ≤ most_nodes → x ≤ most_text → RightTo ws ts end → Checks ws ts (Ok (record { nodes = end; text = x }))
      whole-tree some few short right =
          let b = all_built ws ts (omega (arith, some)) (subst (RightTo ws ts) e right) in
          stood b.tree end x
          (subst₃ (λ (j y z : ℕ). TreeStands b.tree ws ts 0 j y z) (sym e) (sym (offset-start ws)) (ap (offset ws) (sym e) ∙ sym o) b.stand)
          b.sound few short

-- any two answers are the same
pub one-check : (ws ts : List ℕ) (r s : Result Checked Refusal) → Checks ws ts r → Checks ws ts s → r ≡ s
one-check ws ts (Ok it) s a b =
    let t = a.tree it.nodes it.text refl in a.found t.0 t.1 ∙ sym (b.found t.0 t.1)
one-check ws ts (Err e) s a b = let f = a.refused e refl in a.none f ∙ sym (b.none f)
