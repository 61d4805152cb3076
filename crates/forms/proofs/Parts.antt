-- Where the arguments of an application stand: behind its head, up to its end.
-- Assumes nothing.
use Rattle.std.proofs.Common.{Option, Ok}
use mathlib.Core.Path.{◌≡◌, refl, sym, ◌∙◌, subst}
use mathlib.Core.Bool.{true}
use mathlib.Core.List.{List}
use Prim.Native.Nat.{ℕ, ◌+◌, ◌≤◌, ◌<◌}
use native.Mathlib.Omega.{arith}
use Rattle.arena.specs.Node.{after_at}
use Rattle.arena.specs.Stands.{StandAll}
use Rattle.arena.specs.Tree.{Tree, Trees, app, nil, cons}
use Rattle.arena.proofs.Layouts.{stands_after, stands-longer}
use Rattle.tables.specs.Sort.{Tables}
use Rattle.shapes.specs.Shape.{Shape, unary, binary, ite, uncovered, as_none, as_some, some_of, as_empty, singleton, union, extension, indexed, made, other, shape}
use Rattle.shapes.specs.Shows.{Standing}
use Rattle.means.specs.Literal.{Lit, read_with}
use Rattle.settled.specs.Settled.{Settled}
use Rattle.settled.specs.Taken.{Stood}
use Rattle.well_sorted.proofs.Views.{View, v_unary, v_binary, v_ite, v_uncovered, v_as_none, v_as_some, v_some_of, v_as_empty, v_singleton, v_union, v_extension, v_indexed, v_made, v_other, view}

abbrev pub Headed : Trees → Trees → Type 0
Headed us vs = (h : Tree) × (us ≡ cons h vs)

-- the arguments that a shape hands on, behind a head
abbrev pub Heads : Trees → Shape → Type 0
Heads us uncovered = Unit {0}
Heads us (as_none t) = Unit {0}
Heads us (as_some t v) = Headed us (cons v nil)
Heads us (some_of v) = Headed us (cons v nil)
Heads us (as_empty t) = Unit {0}
Heads us (singleton v) = Headed us (cons v nil)
Heads us (union v w) = Headed us (cons v (cons w nil))
Heads us (extension x n) = Unit {0}
Heads us (indexed digits w) = Unit {0}
Heads us (made f vs) = Headed us vs
Heads us other = Unit {0}
Heads us (unary op v) = Unit {0}
Heads us (binary op v w) = Unit {0}
Heads us (ite c v w) = Unit {0}

pub heads : (us : Trees) → Heads us (shape us)
heads us = go us (shape us) (view us)
  where
    go : (us : Trees) (s : Shape) → View us s → Heads us s
    go _ _ v_unary = tt
    go _ _ v_binary = tt
    go _ _ v_ite = tt
    go _ _ v_uncovered = tt
    go _ _ v_as_none = tt
    go _ _ v_as_some = (_, refl)
    go _ _ v_some_of = (_, refl)
    go _ _ v_as_empty = tt
    go _ _ v_singleton = (_, refl)
    go _ _ v_union = (_, refl)
    go _ _ v_extension = tt
    go _ _ v_indexed = tt
    go _ _ v_made = (_, refl)
    go _ _ v_other = tt

pub record Behind (us : Trees) (ws ts : List ℕ) (i first last : ℕ) : Type 0 where
  pub from : ℕ
  pub rest : ℕ
  pub there : StandAll us ws ts first last from rest
  pub behind : i + 1 < first

pub behind-head : (ws ts : List ℕ) (us vs : Trees) → Headed us vs → (i : ℕ) (s : Standing (app us) ws ts i) (first : ℕ) → first ≡ after_at ws (i + 1) → Behind vs ws ts i first s.next
behind-head ws ts us vs h i s first here = subst (λ (us : Trees). (s : Standing (app us) ws ts i) → Behind vs ws ts i first s.next) (sym h.1) go s
  where
    go : (s : Standing (app (cons h.0 vs)) ws ts i) → Behind vs ws ts i first s.next
    go s =
        let all = s.there.children in
        let m : all.mid ≡ first = stands_after ws ts h.0 (i + 1) all.mid s.from all.off all.first ∙ sym here in
        let n = stands-longer ws ts h.0 (i + 1) all.mid s.from all.off all.first in
        record { from = all.off; rest = s.rest; there = subst (λ (n : ℕ). StandAll vs ws ts n s.next all.off s.rest) m all.others; behind = omega arith }

module _ (T : Tables) (ms ws ts : List ℕ) where
  pub settled_in : (i last j k : ℕ) → Settled T ms ws ts i last → i ≤ j → k ≤ last → Settled T ms ws ts j k
  settled_in i last j k h p q n x y us s b d = h n (omega arith) (omega arith) us s b d

  -- one argument
  pub stood-behind : (below i last n : ℕ) (v : Tree) (e : Option ℕ) (l : Lit) → Behind (cons v nil) ws ts i n last → read_with T true below e v ≡ Ok l → Settled T ms ws ts i last →
      Stood T ms ws ts below e l (i + 1) last n
  stood-behind below i last n v e l b m h =
      let f = b.behind in
      let g : last ≡ b.there.mid = b.there.others.next in
      record {
        tree = v;
        there = record { next = b.there.mid; from = b.from; rest = b.there.off; there = b.there.first };
        behind = omega arith;
        within = omega arith;
        reads = m;
        settled = settled_in i last n b.there.mid h (omega arith) (omega arith);
      }
