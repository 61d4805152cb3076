-- What is noted of a `set.singleton` is no bit of an operator's application, so that what operators gave stays.
-- Assumes nothing.
use Rattle.std.proofs.Common.{None, Option, Some}
use mathlib.Core.Path.{◌≡◌, refl, sym, ap, ◌∙◌, subst}
use mathlib.Core.Bool.{Bool, true, false, true≢false}
use mathlib.Core.List.{List}
use Prim.Native.Nat.{ℕ, ◌+◌, ◌/◌, ◌<◌}
use native.Mathlib.Omega.{arith}
use Rattle.ground.proofs.Tests.{by_order}
use Rattle.arena.specs.Node.{node_at}
use Rattle.arena.specs.Tree.{Tree, Trees, symbol, app, cons}
use Rattle.arena.proofs.Arenas.{one-tree}
use Rattle.tables.specs.Sort.{Tables}
use Rattle.shapes.specs.Shape.{Shape, uncovered, as_none, as_some, some_of, as_empty, singleton, union, extension, indexed, made, other, unary, binary, ite, shape}
use Rattle.shapes.specs.Shows.{Standing}
use Rattle.shapes.proofs.Looks.{kind, kinds}
use Rattle.well_sorted.proofs.Views.{View, v_unary, v_binary, v_ite, v_uncovered, v_as_none, v_as_some, v_some_of, v_as_empty, v_singleton, v_union, v_extension, v_indexed, v_made, v_other, view}
use Rattle.marks.specs.Mark.{remembered}
use Rattle.marks.proofs.Marks.{other-remembered}
use Rattle.settled.specs.Settled.{decision, Settled}

-- the shapes that a word heads: a `set.singleton`, and the operators
abbrev worded : Shape → Bool
worded uncovered = false
worded (as_none t) = false
worded (as_some t v) = false
worded (some_of v) = false
worded (as_empty t) = false
worded (singleton v) = true
worded (union v w) = false
worded (extension x n) = false
worded (indexed ds w) = false
worded (made f us) = false
worded other = false
worded (unary op v) = true
worded (binary op v w) = true
worded (ite c v w) = true

Headed : Trees → Type 0
Headed us = (f : List ℕ) × (vs : Trees) × (us ≡ cons (symbol f) vs)

headed : (us : Trees) → worded (shape us) ≡ true → Headed us
unfolding Headed
headed us h = go us (shape us) (view us) h
  where
    go : (us : Trees) (s : Shape) → View us s → worded s ≡ true → (f : List ℕ) × (vs : Trees) × (us ≡ cons (symbol f) vs)
    go _ _ v_unary h = (_, _, refl)
    go _ _ v_binary h = (_, _, refl)
    go _ _ v_ite h = (_, _, refl)
    go _ _ v_uncovered h = absurd (true≢false (sym h))
    go _ _ v_as_none h = absurd (true≢false (sym h))
    go _ _ v_as_some h = absurd (true≢false (sym h))
    go _ _ v_some_of h = absurd (true≢false (sym h))
    go _ _ v_as_empty h = absurd (true≢false (sym h))
    go _ _ v_singleton h = (_, _, refl)
    go _ _ v_union h = absurd (true≢false (sym h))
    go _ _ v_extension h = absurd (true≢false (sym h))
    go _ _ v_indexed h = absurd (true≢false (sym h))
    go _ _ v_made h = absurd (true≢false (sym h))
    go _ _ v_other h = absurd (true≢false (sym h))

no-some : {A B : Type 0} {b : A} → ◌≡◌ {A = Option A} None (Some b) → B
no-some e = let z : ◌≡◌ {A = ℕ} 0 1 = cc in absurd (omega arith)

-- what decides something is an operator
operators : (T : Tables) (s : Shape) (b : Bool) → decision T s ≡ Some b → worded s ≡ true
operators T uncovered b d = no-some d
operators T (as_none t) b d = no-some d
operators T (as_some t v) b d = no-some d
operators T (some_of v) b d = no-some d
operators T (as_empty t) b d = no-some d
operators T (singleton v) b d = no-some d
operators T (union v w) b d = no-some d
operators T (extension x n) b d = no-some d
operators T (indexed ds w) b d = no-some d
operators T (made f us) b d = no-some d
operators T other b d = no-some d
operators T (unary op v) b d = refl
operators T (binary op v w) b d = refl
operators T (ite c v w) b d = refl

module _ (ws ts : List ℕ) where
  -- behind a worded application stands a symbol
  symbol-behind : (us : Trees) (i : ℕ) → Standing (app us) ws ts i → worded (shape us) ≡ true → kind (node_at ws (i + 1)) ≡ 4
  unfolding Headed
  symbol-behind us i s h =
      let k = headed us h in
      let t = subst (λ (x : Trees). Standing (app x) ws ts i) k.2 s in
      kinds ws ts (i + 1) (symbol k.0) (record { next = t.there.children.mid; from = t.from; rest = t.there.children.off; there = t.there.children.first })

  apart : (us vs : Trees) (i k : ℕ) → Standing (app us) ws ts i → Standing (app vs) ws ts k → worded (shape us) ≡ true → worded (shape vs) ≡ true → i < k → k / 2 ≡ i / 2 → ⊥
  apart us vs i k s r h g less e =
      let n : k ≡ i + 1 = omega arith in
      let p = symbol-behind us i s h in
      let q = subst (λ (m : ℕ). kind (node_at ws m) ≡ 5) n (kinds ws ts k (app vs) r) in
      absurd (omega arith)

  -- a note of a `set.singleton`
  pub aside : (T : Tables) (ms : List ℕ) (us : Trees) (v : Tree) (i : ℕ) → Standing (app us) ws ts i → shape us ≡ singleton v → (b : Bool) (first end : ℕ) → Settled T ms ws ts first end → Settled T (remembered ms i b) ws ts first end
  aside T ms us v i s d b first end h k p q vs r c e =
      other-remembered ms i b k away ∙ h k p q vs r c e
    where
      us-worded : worded (shape us) ≡ true
      us-worded = ap worded d

      vs-worded : worded (shape vs) ≡ true
      vs-worded = operators T (shape vs) c e

      same : k ≡ i → ⊥
      same z =
          let r' = subst (λ (m : ℕ). Standing (app vs) ws ts m) z r in
          let o : app us ≡ app vs = one-tree ws ts (app us) (app vs) i s.next r'.next s.from s.rest r'.from r'.rest s.there r'.there in
          let w : us ≡ vs = cc in
          no-some (ap (decision T) (sym d) ∙ ap (λ (x : Trees). decision T (shape x)) w ∙ e)

      away : k / 2 ≡ i / 2 → ⊥
      away z =
          by_order i k (λ m. apart us vs i k s r us-worded vs-worded m z)
          (λ m. by_order k i (λ n. apart vs us k i r s vs-worded us-worded n (sym z)) (λ n. same (omega arith)))
