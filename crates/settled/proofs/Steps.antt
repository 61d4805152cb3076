-- One step to the branch that is taken.
-- Assumes nothing.
use Rattle.std.proofs.Common.{None, Option, Some}
use mathlib.Core.Path.{◌≡◌, refl, sym, ap, ap₂, ◌∙◌, subst}
use mathlib.Core.Bool.{Bool, true, false, cond, true≢false}
use mathlib.Core.List.{List}
use Prim.Native.Nat.{ℕ, ◌+◌, ◌≤◌, ◌<◌}
use native.Mathlib.Omega.{arith}
use Rattle.ground.specs.Bytes.{bytes}
use Rattle.arena.specs.Node.{after_at}
use Rattle.arena.specs.Stands.{TreeStands}
use Rattle.arena.specs.Tree.{Tree, Trees, bit_vec, numeral, string, symbol, app}
use Rattle.arena.proofs.Layouts.{stands_after, stands-longer}
use Rattle.shapes.specs.declared.shape.Found.{Found}
use Rattle.shapes.specs.Shape.{Shape, on_app, ite, shape}
use Rattle.shapes.specs.Shows.{Standing, PartsAt, Shows, ShapeAt}
use Rattle.well_sorted.proofs.Views.{call3, View, v_unary, v_binary, v_ite, v_uncovered, v_as_none, v_as_some, v_some_of, v_as_empty, v_singleton, v_union, v_extension, v_indexed, v_made, v_other, view}
use Rattle.marks.specs.Mark.{marked}
use Rattle.settled.specs.Taken.{ite_shape, is_ite, argument, Branch, StepAt}

-- what has the shape of an `ite` is one
pub ite-call : (us : Trees) (c v w : Tree) → shape us ≡ ite c v w → us ≡ call3 (bytes "ite") c v w
ite-call us c v w e = go us (shape us) (view us) e
  where
    go : (us : Trees) (s : Shape) → View us s → s ≡ ite c v w → us ≡ call3 (bytes "ite") c v w
    go _ _ (v_ite {c = d} {v = x} {w = y}) e =
        let p : d ≡ c = cc in
        let q : x ≡ v = cc in
        let r : y ≡ w = cc in
        ap (λ (z : Tree). call3 (bytes "ite") z x y) p ∙ ap (λ (z : Tree). call3 (bytes "ite") c z y) q ∙ ap (λ (z : Tree). call3 (bytes "ite") c v z) r
    go _ _ v_unary e = absurd (true≢false (sym (ap ite_shape e)))
    go _ _ v_binary e = absurd (true≢false (sym (ap ite_shape e)))
    go _ _ v_uncovered e = absurd (true≢false (sym (ap ite_shape e)))
    go _ _ v_as_none e = absurd (true≢false (sym (ap ite_shape e)))
    go _ _ v_as_some e = absurd (true≢false (sym (ap ite_shape e)))
    go _ _ v_some_of e = absurd (true≢false (sym (ap ite_shape e)))
    go _ _ v_as_empty e = absurd (true≢false (sym (ap ite_shape e)))
    go _ _ v_singleton e = absurd (true≢false (sym (ap ite_shape e)))
    go _ _ v_union e = absurd (true≢false (sym (ap ite_shape e)))
    go _ _ v_extension e = absurd (true≢false (sym (ap ite_shape e)))
    go _ _ v_indexed e = absurd (true≢false (sym (ap ite_shape e)))
    go _ _ v_made e = absurd (true≢false (sym (ap ite_shape e)))
    go _ _ v_other e = absurd (true≢false (sym (ap ite_shape e)))

-- the three parts of one, at nodes one behind the other
pub record Three (ws ts : List ℕ) (c v w : Tree) (i end first left right : ℕ) : Type 0 where
  pub at_first : Standing c ws ts first
  pub at_left : Standing v ws ts left
  pub at_right : Standing w ws ts right
  pub head : first ≡ i + 2
  pub to-left : at_first.next ≡ left
  pub to-right : at_left.next ≡ right
  pub to_end : at_right.next ≡ end

module _ (ws ts : List ℕ) (f : List ℕ) (c v w : Tree) (i : ℕ) (s : Standing (app (call3 f c v w)) ws ts i) where
  pub three-of : (first left right : ℕ) → first ≡ after_at ws (i + 1) → left ≡ after_at ws first → right ≡ after_at ws left → Three ws ts c v w i s.next first left right
  three-of first left right p q r =
      let all = s.there.children in
      let one = all.others in
      let two = one.others in
      let three = two.others in
      let h : all.mid ≡ first = stands_after ws ts (symbol f) (i + 1) all.mid s.from all.off all.first ∙ sym p in
      let l : one.mid ≡ left = stands_after ws ts c all.mid one.mid all.off one.off one.first ∙ ap (λ (n : ℕ). after_at ws n) h ∙ sym q in
      let m : two.mid ≡ right = stands_after ws ts v one.mid two.mid one.off two.off two.first ∙ ap (λ (n : ℕ). after_at ws n) l ∙ sym r in
      let k : all.mid ≡ i + 1 + 1 = all.first.next in
      let e : s.next ≡ three.mid = three.others.next in
      record {
        at_first = record { next = left; from = all.off; rest = one.off; there = subst (λ (n : ℕ). TreeStands c ws ts first n all.off one.off) l (subst (λ (n : ℕ). TreeStands c ws ts n one.mid all.off one.off) h one.first) };
        at_left = record { next = right; from = one.off; rest = two.off; there = subst (λ (n : ℕ). TreeStands v ws ts left n one.off two.off) m (subst (λ (n : ℕ). TreeStands v ws ts n two.mid one.off two.off) l two.first) };
        at_right = record { next = three.mid; from = two.off; rest = three.off; there = subst (λ (n : ℕ). TreeStands w ws ts n three.mid two.off three.off) m three.first };
        head = omega arith;
        to-left = refl;
        to-right = refl;
        to_end = sym e;
      }

longer : (ws ts : List ℕ) (t : Tree) (i : ℕ) (s : Standing t ws ts i) → i < s.next
longer ws ts t i s = stands-longer ws ts t i s.next s.from s.rest s.there

not-list : (t : Tree) → on_app t false (λ us. true) ≡ false → is_ite t ≡ false
not-list (bit_vec w n) e = refl
not-list (numeral n) e = refl
not-list (string s) e = refl
not-list (symbol s) e = refl
not-list (app us) e = absurd (true≢false e)

module _ (ms ws ts : List ℕ) (i : ℕ) (p : Option ℕ) (parts : PartsAt ws i p) where
  pub step-atom : p ≡ None → StepAt ms ws ts i None
  step-atom e t s = not-list t (subst (PartsAt ws i) e parts ts t s)

  module _ (f : Found) (shown : ShapeAt ws ts i f) where
    other-shape : ((condition left right : ℕ) → f ≡ Found.Ite condition left right → ⊥) → (s : Shape) → Shows ws ts f s → ite_shape s ≡ false
    other-shape h s g = go f h s g
      where
        go : (f : Found) → ((condition left right : ℕ) → f ≡ Found.Ite condition left right → ⊥) → (s : Shape) → Shows ws ts f s → ite_shape s ≡ false
        go Found.Uncovered h s g = ap ite_shape g
        go (Found.AsNone sort) h s g = ap ite_shape g.1
        go (Found.AsSome sort value) h s g = ap ite_shape g.2
        go (Found.SomeOf value) h s g = ap ite_shape g.1
        go (Found.AsEmpty sort) h s g = ap ite_shape g.1
        go (Found.Singleton value) h s g = ap ite_shape g.1
        go (Found.Union left right) h s g = ap ite_shape g.2
        go (Found.Extension kind low) h s g = ap ite_shape g.1
        go (Found.Indexed offset size low high) h s g = ap ite_shape g.1
        go (Found.Made offset size first many) h s g = ap ite_shape g.2
        go Found.Other h s g = ap ite_shape g
        go (Found.Unary op value) h s g = ap ite_shape g.1
        go (Found.Binary op left right) h s g = ap ite_shape g.2
        go (Found.Ite condition left right) h s g = absurd (h condition left right refl)

    pub step_other : ((condition left right : ℕ) → f ≡ Found.Ite condition left right → ⊥) → StepAt ms ws ts i None
    step_other h (bit_vec w n) s = refl
    step_other h (numeral n) s = refl
    step_other h (string t) s = refl
    step_other h (symbol t) s = refl
    step_other h (app us) s = other-shape h (shape us) (shown.1 us s)

    module _ (many : ℕ) (list : p ≡ Some many) (condition left right : ℕ) (is : f ≡ Found.Ite condition left right) where
      placed : (condition ≡ after_at ws (i + 1)) × (left ≡ after_at ws (after_at ws (i + 1))) × (right ≡ after_at ws left)
      placed = (subst (λ (g : Found). ShapeAt ws ts i g) is shown).0

      three : (us : Trees) (c v w : Tree) → us ≡ call3 (bytes "ite") c v w → (s : Standing (app us) ws ts i) → Three ws ts c v w i s.next condition left right
      three us c v w e =
          let z = placed in
          subst (λ (us : Trees). (s : Standing (app us) ws ts i) → Three ws ts c v w i s.next condition left right) (sym e)
          (λ s. three-of ws ts (bytes "ite") c v w i s condition left right z.0 (z.1 ∙ ap (λ (n : ℕ). after_at ws n) (sym z.0)) z.2)

      moved : (t u : Tree) (k j end : ℕ) (s : Standing t ws ts k) → t ≡ u → k ≡ j → s.next ≤ end → (r : Standing u ws ts j) × (r.next ≤ end)
      moved t u k j end s e f h =
          (record { next = s.next; from = s.from; rest = s.rest; there = subst (λ (x : Tree). TreeStands x ws ts j s.next s.from s.rest) e (subst (λ (n : ℕ). TreeStands t ws ts n s.next s.from s.rest) f s.there) }, h)

      at-branch : (b : Bool) → b ≡ marked ms i → (j : ℕ) → j ≡ cond b left right → j ≡ cond (marked ms i) (argument ws i 1) (argument ws i 2)
      at-branch b m j e =
          let z = placed in
          e ∙ ap₂ (λ (x y : ℕ). cond b x y) z.1 (z.2 ∙ ap (λ (n : ℕ). after_at ws n) z.1) ∙ ap (λ (x : Bool). cond x (argument ws i 1) (argument ws i 2)) m

      pub step-to : (b : Bool) → b ≡ marked ms i → (j : ℕ) → j ≡ cond b left right → StepAt ms ws ts i (Some j)
      step-to b m j e (bit_vec w n) s = absurd (true≢false (sym (ap (λ (t : Tree). on_app t false (λ us. true)) ((subst (PartsAt ws i) list parts).1 ts (bit_vec w n) s).1)))
      step-to b m j e (numeral n) s = absurd (true≢false (sym (ap (λ (t : Tree). on_app t false (λ us. true)) ((subst (PartsAt ws i) list parts).1 ts (numeral n) s).1)))
      step-to b m j e (string t) s = absurd (true≢false (sym (ap (λ (t : Tree). on_app t false (λ us. true)) ((subst (PartsAt ws i) list parts).1 ts (string t) s).1)))
      step-to b m j e (symbol t) s = absurd (true≢false (sym (ap (λ (t : Tree). on_app t false (λ us. true)) ((subst (PartsAt ws i) list parts).1 ts (symbol t) s).1)))
      step-to b m j e (app us) s =
          let g = (subst (λ (h : Found). ShapeAt ws ts i h) is shown).1 us s in
          go b m j e g.0 g.1 g.2 g.3 (three us g.0 g.1 g.2 (ite-call us g.0 g.1 g.2 g.3) s)
        where
          go : (b : Bool) → b ≡ marked ms i → (j : ℕ) → j ≡ cond b left right → (c v w : Tree) → shape us ≡ ite c v w → Three ws ts c v w i s.next condition left right → Branch ms ws ts (app us) i s.next j
          go true m j e c v w d h =
              let l = longer ws ts c condition h.at_first in
              let k = longer ws ts v left h.at_left in
              let n = longer ws ts w right h.at_right in
              let p = h.head in
              let q = h.to-left in
              let q' = h.to-right in
              let r = h.to_end in
              let there = moved v (cond (marked ms i) v w) left j s.next h.at_left (ap (λ (x : Bool). cond x v w) m) (sym e) (omega arith) in
              record { parts = us; condition = c; left = v; right = w; is = refl; shaped = d; there = there.0; placed = at-branch true m j e; behind = omega arith; within = there.1 }
          go false m j e c v w d h =
              let l = longer ws ts c condition h.at_first in
              let k = longer ws ts v left h.at_left in
              let p = h.head in
              let q = h.to-left in
              let q' = h.to-right in
              let r = h.to_end in
              let there = moved w (cond (marked ms i) v w) right j s.next h.at_right (ap (λ (x : Bool). cond x v w) m) (sym e) (omega arith) in
              record { parts = us; condition = c; left = v; right = w; is = refl; shaped = d; there = there.0; placed = at-branch false m j e; behind = omega arith; within = there.1 }
