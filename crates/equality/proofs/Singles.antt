-- Where the members of a set stand: as far down as it is read, along the branches that are taken, and inside its part of the arena.
-- Assumes nothing.
use Rattle.std.proofs.Common.{Option, Ok}
use mathlib.Core.Path.{◌≡◌, refl, sym, ap, ap₂, ◌∙◌, subst}
use mathlib.Core.Bool.{Bool, true, false, cond}
use mathlib.Core.List.{List, [], ◌∷◌, ◌++◌}
use Prim.Native.Nat.{ℕ, zero, suc, ◌+◌, ◌≤◌}
use native.Mathlib.Omega.{arith}
use Rattle.ground.specs.Bytes.{bytes}
use Rattle.arena.specs.Node.{after_at}
use Rattle.arena.specs.Stands.{TreeStands}
use Rattle.arena.specs.Tree.{Tree, Trees, bit_vec, numeral, string, symbol, app, nil, cons}
use Rattle.arena.proofs.Layouts.{stands_after, stands-longer}
use Rattle.order.specs.Every.{Every, none, also}
use Rattle.order.proofs.Everies.{every_map, every_append}
use Rattle.tables.specs.Sort.{Tables}
use Rattle.shapes.specs.Shape.{Shape, uncovered, as_none, as_some, some_of, as_empty, singleton, union, extension, indexed, made, other, unary, binary, ite, shape}
use Rattle.shapes.specs.Shows.{Standing}
use Rattle.sorts.specs.Sort.{levels}
use Rattle.means.specs.Literal.{Lit, read_with}
use Rattle.well_sorted.proofs.Results.{refuses, went}
use Rattle.well_sorted.proofs.Deeper.{deeper}
use Rattle.tables.proofs.Places.{some_one}
use Rattle.settled.specs.Settled.{decision}
use Rattle.settled.specs.Taken.{argument, Leads, stays, takes}
use Rattle.settled.proofs.Steps.{ite-call, Three, three-of}
use Rattle.settled.proofs.Takes.{Chosen, chosen_of, decides-of}
use Rattle.forms.proofs.Arms.{Accepts}
use Rattle.forms.proofs.Parts.{Heads, heads, behind-head}
use Rattle.equality.specs.Singles.{singles_of, singles}

module _ (T : Tables) (ws : List ℕ) where
  -- one level more finds no others
  module _ (a : ℕ) (most : suc a ≤ levels) (below : (e : Option ℕ) (t : Tree) (l : Lit) (i : ℕ) → read_with T true a e t ≡ Ok l → singles T ws a t i ≡ singles T ws (suc a) t i) where
    branch-stable : (e : Option ℕ) (l : Lit) (c v w : Tree) (i : ℕ) → Chosen T e l a c v w → singles_of T ws (λ t j. singles T ws a t j) i (ite c v w) ≡ singles_of T ws (λ t j. singles T ws (suc a) t j) i (ite c v w)
    branch-stable e l c v w i k =
        rw (decides-of T e l a (omega arith) c v w k) (below e (cond k.truth v w) l (cond k.truth (argument ws i 1) (argument ws i 2)) k.reads)

    shape-stable : (e : Option ℕ) (us : Trees) (l : Lit) (i : ℕ) → read_with T true (suc a) e (app us) ≡ Ok l → (s : Shape) → shape us ≡ s → Accepts T a e l s →
        singles_of T ws (λ t j. singles T ws a t j) i s ≡ singles_of T ws (λ t j. singles T ws (suc a) t j) i s
    shape-stable e us l i r uncovered d m = refl
    shape-stable e us l i r (as_none t) d m = refl
    shape-stable e us l i r (as_some t v) d m = refl
    shape-stable e us l i r (some_of v) d m = refl
    shape-stable e us l i r (as_empty t) d m = refl
    shape-stable e us l i r (singleton v) d m = refl
    shape-stable e us l i r (union v w) d m =
        let f = went _ _ l m in
        let z = went _ _ l f.next in
        ap₂ (λ (x y : List ℕ). x ++ y) (below e v f.got (argument ws i 0) f.first) (below e w z.got (argument ws i 1) z.first)
    shape-stable e us l i r (extension x n) d m = refl
    shape-stable e us l i r (indexed ds w) d m = refl
    shape-stable e us l i r (made f vs) d m = refl
    shape-stable e us l i r other d m = refl
    shape-stable e us l i r (unary op v) d m = refl
    shape-stable e us l i r (binary op v w) d m = refl
    shape-stable e us l i r (ite c v w) d m = branch-stable e l c v w i (chosen_of T e l a us c v w d r)

  pub stable : (a : ℕ) → a ≤ levels → (e : Option ℕ) (t : Tree) (l : Lit) (i : ℕ) → read_with T true a e t ≡ Ok l → singles T ws a t i ≡ singles T ws (suc a) t i
  unfolding singles read_with
  stable zero most e t l i m = refuses m
  stable (suc a) most e (bit_vec w n) l i m = refl
  stable (suc a) most e (numeral n) l i m = refl
  stable (suc a) most e (string s) l i m = refl
  stable (suc a) most e (symbol s) l i m = refl
  stable (suc a) most e (app us) l i m = shape-stable a most (λ x u k j q. stable a (omega arith) x u k j q) e us l i m (shape us) refl m

  -- they are those of the branch that is left
  pub along : (a : ℕ) → a ≤ levels → (e : Option ℕ) (t u : Tree) (l : Lit) (i j : ℕ) → read_with T true a e t ≡ Ok l → Leads T ws t i u j → singles T ws a t i ≡ singles T ws a u j
  unfolding singles read_with
  along zero most e t u l i j m h = refuses m
  along (suc a) most e _ _ l i j m stays = refl
  along (suc a) most e _ u l i j m (takes {us = us} c v w b d s h) =
      let k = chosen_of T e l a us c v w d m in
      let z : k.truth ≡ b = some_one (sym (decides-of T e l a (omega arith) c v w k) ∙ ap (decision T) (sym d) ∙ s) in
      let r = subst (λ (x : Bool). read_with T true a e (cond x v w) ≡ Ok l) z k.reads in
      ap (singles_of T ws (λ t n. singles T ws a t n) i) d
      ∙ rw (ap (decision T) (sym d) ∙ s) (stable a (omega arith) e (cond b v w) l (cond b (argument ws i 1) (argument ws i 2)) r)
      ∙ along (suc a) most e (cond b v w) u l (cond b (argument ws i 1) (argument ws i 2)) j (deeper T true a e (cond b v w) l r) h

-- they stand inside the set, each with room behind it
abbrev pub Bound : ℕ → ℕ → ℕ → Type 0
Bound first end n = (first ≤ n) × (n + 2 ≤ end)

wider : (f e first end : ℕ) → first ≤ f → e ≤ end → (ns : List ℕ) → Every (Bound f e) ns → Every (Bound first end) ns
wider f e first end p q ns h = every_map (Bound f e) (Bound first end) (λ n b. let x = b.0 in let y = b.1 in (omega arith, omega arith)) ns h

module _ (T : Tables) (ws ts : List ℕ) where
  module _ (a : ℕ) (most : suc a ≤ levels) (below : (e : Option ℕ) (t : Tree) (l : Lit) (i : ℕ) (s : Standing t ws ts i) → read_with T true a e t ≡ Ok l → Every (Bound i s.next) (singles T ws a t i))
      (e : Option ℕ) (us : Trees) (l : Lit) (i : ℕ) (s : Standing (app us) ws ts i) (r : read_with T true (suc a) e (app us) ≡ Ok l) where
    abbrev Bounded : Shape → Type 0
    Bounded x = Every (Bound i s.next) (singles_of T ws (λ t j. singles T ws a t j) i x)

    one-bounded : (v : Tree) → shape us ≡ singleton v → Every (Bound i s.next) (i ∷ [])
    one-bounded v d =
        let b = behind-head ws ts us (cons v nil) (subst (Heads us) d (heads us)) i s (after_at ws (i + 1)) refl in
        let n = stands-longer ws ts v (after_at ws (i + 1)) b.there.mid b.from b.there.off b.there.first in
        let g : s.next ≡ b.there.mid = b.there.others.next in
        let f = b.behind in
        let p : Bound i s.next i = (omega arith, omega arith) in
        also p none

    both-bounded : (v w : Tree) → shape us ≡ union v w → Accepts T a e l (union v w) → Every (Bound i s.next) (singles T ws a v (argument ws i 0) ++ singles T ws a w (argument ws i 1))
    both-bounded v w d m =
        let f = went _ _ l m in
        let z = went _ _ l f.next in
        let b = behind-head ws ts us (cons v (cons w nil)) (subst (Heads us) d (heads us)) i s (after_at ws (i + 1)) refl in
        let q : b.there.mid ≡ argument ws i 1 = stands_after ws ts v (after_at ws (i + 1)) b.there.mid b.from b.there.off b.there.first in
        let one = stands-longer ws ts v (after_at ws (i + 1)) b.there.mid b.from b.there.off b.there.first in
        let two = stands-longer ws ts w b.there.mid b.there.others.mid b.there.off b.there.others.off b.there.others.first in
        let end : s.next ≡ b.there.others.mid = b.there.others.others.next in
        let h = b.behind in
        let left = below e v f.got (argument ws i 0) (record { next = b.there.mid; from = b.from; rest = b.there.off; there = b.there.first }) f.first in
        let right = below e w z.got (argument ws i 1) (record { next = b.there.others.mid; from = b.there.off; rest = b.there.others.off; there = subst (λ (n : ℕ). TreeStands w ws ts n b.there.others.mid b.there.off b.there.others.off) q b.there.others.first }) z.first in
        every_append (Bound i s.next) (singles T ws a v (argument ws i 0)) (singles T ws a w (argument ws i 1))
        (wider (argument ws i 0) b.there.mid i s.next (omega arith) (omega arith) _ left)
        (wider (argument ws i 1) b.there.others.mid i s.next (omega arith) (omega arith) _ right)

    branch-bounded : (c v w : Tree) → shape us ≡ ite c v w → Chosen T e l a c v w → Bounded (ite c v w)
    branch-bounded c v w d k =
        let u = ite-call us c v w d in
        let z = three-of ws ts (bytes "ite") c v w i (record { next = s.next; from = s.from; rest = s.rest; there = subst (λ (x : Trees). TreeStands (app x) ws ts i s.next s.from s.rest) u s.there })
        (argument ws i 0) (argument ws i 1) (argument ws i 2) refl refl refl in
        rw (decides-of T e l a (omega arith) c v w k) (go k.truth z k.reads)
      where
        go : (b : Bool) → Three ws ts c v w i s.next (argument ws i 0) (argument ws i 1) (argument ws i 2) → read_with T true a e (cond b v w) ≡ Ok l →
            Every (Bound i s.next) (singles T ws a (cond b v w) (cond b (argument ws i 1) (argument ws i 2)))
        go true z m =
            let h = z.head in
            let x = z.to-left in
            let y = z.to-right in
            let n = z.to_end in
            let p = stands-longer ws ts c (argument ws i 0) z.at_first.next z.at_first.from z.at_first.rest z.at_first.there in
            let q = stands-longer ws ts w (argument ws i 2) z.at_right.next z.at_right.from z.at_right.rest z.at_right.there in
            wider (argument ws i 1) z.at_left.next i s.next (omega arith) (omega arith) _ (below e v l (argument ws i 1) z.at_left m)
        go false z m =
            let h = z.head in
            let x = z.to-left in
            let y = z.to-right in
            let n = z.to_end in
            let p = stands-longer ws ts c (argument ws i 0) z.at_first.next z.at_first.from z.at_first.rest z.at_first.there in
            let q = stands-longer ws ts v (argument ws i 1) z.at_left.next z.at_left.from z.at_left.rest z.at_left.there in
            wider (argument ws i 2) z.at_right.next i s.next (omega arith) (omega arith) _ (below e w l (argument ws i 2) z.at_right m)

    shape-bounded : (x : Shape) → shape us ≡ x → Accepts T a e l x → Bounded x
    shape-bounded uncovered d m = none
    shape-bounded (as_none t) d m = none
    shape-bounded (as_some t v) d m = none
    shape-bounded (some_of v) d m = none
    shape-bounded (as_empty t) d m = none
    shape-bounded (singleton v) d m = one-bounded v d
    shape-bounded (union v w) d m = both-bounded v w d m
    shape-bounded (extension x n) d m = none
    shape-bounded (indexed ds w) d m = none
    shape-bounded (made f vs) d m = none
    shape-bounded other d m = none
    shape-bounded (unary op v) d m = none
    shape-bounded (binary op v w) d m = none
    shape-bounded (ite c v w) d m = branch-bounded c v w d (chosen_of T e l a us c v w d r)

  pub bounded : (a : ℕ) → a ≤ levels → (e : Option ℕ) (t : Tree) (l : Lit) (i : ℕ) (s : Standing t ws ts i) → read_with T true a e t ≡ Ok l → Every (Bound i s.next) (singles T ws a t i)
  unfolding singles read_with
  bounded zero most e t l i s m = refuses m
  bounded (suc a) most e (bit_vec w n) l i s m = none
  bounded (suc a) most e (numeral n) l i s m = none
  bounded (suc a) most e (string t) l i s m = none
  bounded (suc a) most e (symbol t) l i s m = none
  bounded (suc a) most e (app us) l i s m = shape-bounded a most (λ x u k j z q. bounded a (omega arith) x u k j z q) e us l i s m (shape us) refl m
