-- From branch to branch: what is read stays, up to a node that is no `ite`.
-- Assumes nothing.
use Rattle.std.proofs.Common.{None, Option, Some, Ok, Result}
use mathlib.Core.Path.{◌≡◌, sym, ap, ◌∙◌, subst}
use mathlib.Core.Bool.{Bool, true, false, cond}
use mathlib.Core.List.{List}
use Prim.Native.Nat.{ℕ, zero, suc, ◌+◌, ◌-◌, ◌/◌, ◌≤◌, ◌<◌}
use native.Mathlib.Omega.{arith}
use lib.ListN.{length}
use borrow.Author.Tests.{eqb-true}
use Rattle.ground.specs.Options.{over}
use Rattle.ground.proofs.Tests.{by_order}
use Rattle.refusals.specs.declared.Refusal.TheVariants.{UnmatchedType}
use Rattle.arena.specs.Layout.{stride}
use Rattle.arena.specs.Tree.{Tree, Trees, app}
use Rattle.arena.proofs.Layouts.{stands-longer}
use Rattle.arena.proofs.Views.{node-past}
use Rattle.tables.specs.Sort.{Tables}
use Rattle.shapes.specs.Shape.{Shape, ite, shape}
use Rattle.shapes.specs.Shows.{Standing}
use Rattle.shapes.proofs.Looks.{kind, kind_of, kinds}
use Rattle.sorts.specs.Sort.{read_sort, levels}
use Rattle.values.specs.Holds.{truth_of}
use Rattle.values.specs.Value.{Value, v_bool}
use Rattle.values.proofs.Operators.{chosen-one}
use Rattle.means.specs.Literal.{Lit, lit, app_lit, read_with}
use Rattle.well_sorted.proofs.Results.{refuses, ok_same, went, passed, was-found}
use Rattle.well_sorted.proofs.Deeper.{deeper}
use Rattle.marks.specs.Mark.{marked}
use Rattle.settled.specs.Settled.{kept, decision}
use Rattle.settled.specs.Taken.{Leads, stays, takes, Branch, Stood, StepAt, TakesAt}
use Rattle.refusals.specs.declared.Refusal.{Refusal}

-- what is read with an allowance is read with any that is greater
pub raised : (T : Tables) (o : Bool) (d a : ℕ) (e : Option ℕ) (t : Tree) (l : Lit) → read_with T o a e t ≡ Ok l → read_with T o (d + a) e t ≡ Ok l
raised T o zero a e t l m = subst (λ (n : ℕ). read_with T o n e t ≡ Ok l) (omega arith) m
raised T o (suc d) a e t l m = subst (λ (n : ℕ). read_with T o n e t ≡ Ok l) (omega arith) (deeper T o (d + a) e t l (raised T o d a e t l m))

pub at-levels : (T : Tables) (o : Bool) (a : ℕ) (e : Option ℕ) (t : Tree) (l : Lit) → a ≤ levels → read_with T o a e t ≡ Ok l → read_with T o levels e t ≡ Ok l
at-levels T o a e t l h m = let z : levels - a + a ≡ levels = omega arith in subst (λ (n : ℕ). read_with T o n e t ≡ Ok l) z (raised T o (levels - a) a e t l m)

some-kind : (t : Tree) → 0 < kind_of t
some-kind (Tree.bit_vec w n) = omega arith
some-kind (Tree.numeral n) = omega arith
some-kind (Tree.string s) = omega arith
some-kind (Tree.symbol s) = omega arith
some-kind (Tree.app us) = omega arith

-- a tree stands inside the words
pub inside : (ws ts : List ℕ) (t : Tree) (i : ℕ) → Standing t ws ts i → i < length ws
inside ws ts t i s =
    by_order i (length ws / stride)
    (λ h. omega arith)
    (λ h. let k = kinds ws ts i t s in let z = ap kind (node-past ws i h) in let y = some-kind t in absurd (omega arith))

module _ (T : Tables) (e : Option ℕ) (l : Lit) where
  -- an `ite` that is read: its condition, and the branch that is what it is
  pub record Chosen (a : ℕ) (c v w : Tree) : Type 0 where
    pub on : Lit
    pub truth : Bool
    pub reads_on : read_with T true a None c ≡ Ok on
    pub is-truth : on.value ≡ v_bool truth
    pub reads : read_with T true a e (cond truth v w) ≡ Ok l

  pub chosen_of : (a : ℕ) (us : Trees) (c v w : Tree) → shape us ≡ ite c v w → read_with T true (suc a) e (app us) ≡ Ok l → Chosen a c v w
  unfolding read_with
  chosen_of a us c v w d m =
      let n = subst (λ (s : Shape). app_lit T (λ t. read_sort T a t) (λ x u. read_with T true a x u) true e s ≡ Ok l) d m in
      let k = went _ _ l n in
      let x = went _ _ l k.next in
      let z = went _ _ l x.next in
      let p = passed _ UnmatchedType _ l z.next in
      let y = went _ _ l p.1 in
      let b = chosen-one k.got.value x.got.value z.got.value y.got (was-found UnmatchedType _ _ y.first) in
      record { on = k.got; truth = b.0; reads_on = k.first; is-truth = b.1; reads = go b.0 x.got z.got x.first z.first (eqb-true _ _ p.0) (ap (λ (u : Value). lit x.got.row u) b.2 ∙ ok_same y.next) }
    where
      go : (b : Bool) (p q : Lit) → read_with T true a e v ≡ Ok p → read_with T true a e w ≡ Ok q → p.row ≡ q.row → lit p.row (cond b p.value q.value) ≡ l → read_with T true a e (cond b v w) ≡ Ok l
      go true p q f g r i = f ∙ ap Ok i
      go false p q f g r i = g ∙ ap Ok (ap (λ (n : ℕ). lit n q.value) (sym r) ∙ i)

  pub decides-of : (a : ℕ) → a ≤ levels → (c v w : Tree) (k : Chosen a c v w) → decision T (ite c v w) ≡ Some k.truth
  decides-of a h c v w k = ap (λ (r : Result Lit Refusal). over (kept r) (λ l. truth_of l.value)) (at-levels T true a None c k.on h k.reads_on) ∙ ap truth_of k.is-truth

  -- what it decides, and the branch read with the same allowance
  record Settles (allow : ℕ) (c v w : Tree) : Type 0 where
    truth : Bool
    decides : decision T (ite c v w) ≡ Some truth
    reads : read_with T true allow e (cond truth v w) ≡ Ok l

  settles : (allow : ℕ) → allow ≤ levels → (us : Trees) (c v w : Tree) → shape us ≡ ite c v w → read_with T true allow e (app us) ≡ Ok l → Settles allow c v w
  unfolding read_with
  settles zero h us c v w d m = refuses m
  settles (suc a) h us c v w d m =
      let k = chosen_of a us c v w d m in
      record {
        truth = k.truth;
        decides = decides-of a (omega arith) c v w k;
        reads = deeper T true a e (cond k.truth v w) l k.reads;
      }

module _ (T : Tables) (ms ws ts : List ℕ) (e : Option ℕ) (l : Lit) (first end : ℕ) where
  module _ (allow : ℕ) (most : allow ≤ levels) where
    abbrev At : ℕ → Type 0
    At i = Stood T ms ws ts allow e l first end i

    advance : (i j : ℕ) (h : At i) → Branch ms ws ts h.tree i h.there.next j → (k : At j) × Leads T ws h.tree i k.tree j
    advance i j h b =
        let z = settles T e l allow most b.parts b.condition b.left b.right b.shaped (subst (λ (t : Tree). read_with T true allow e t ≡ Ok l) b.is h.reads) in
        let n = stands-longer ws ts h.tree i h.there.next h.there.from h.there.rest h.there.there in
        let d : decision T (shape b.parts) ≡ Some z.truth = ap (decision T) b.shaped ∙ z.decides in
        let mark : marked ms i ≡ z.truth = h.settled i (omega arith) n b.parts (subst (λ (t : Tree). Standing t ws ts i) b.is h.there) z.truth d in
        let f = h.behind in
        let g = h.within in
        let p = b.behind in
        let q = b.within in (
          record {
            tree = cond (marked ms i) b.left b.right;
            there = b.there;
            behind = omega arith;
            within = omega arith;
            reads = subst (λ (x : Bool). read_with T true allow e (cond x b.left b.right) ≡ Ok l) (sym mark) z.reads;
            settled = λ k x y us s c d. h.settled k (omega arith) (omega arith) us s c d;
          },
          subst (λ (t : Tree). Leads T ws t i (cond (marked ms i) b.left b.right) j) (sym b.is)
              (takes b.condition b.left b.right (marked ms i) b.shaped (d ∙ ap Some (sym mark)) (subst (λ (x : ℕ). Leads T ws (cond (marked ms i) b.left b.right) x (cond (marked ms i) b.left b.right) j) b.placed stays)),
        )

-- one way after the other
leads_then : {T : Tables} {ws : List ℕ} {t u v : Tree} {i j k : ℕ} → Leads T ws t i u j → Leads T ws u j v k → Leads T ws t i v k
leads_then stays g = g
leads_then (takes c v w b e d f) g = takes c v w b e d (leads_then f g)

-- as far as the loop has come
abbrev pub Sofar : List ℕ → List ℕ → List ℕ → ℕ → ℕ → Type 0
Sofar ms ws ts i place =
    (T : Tables) (allow : ℕ) (e : Option ℕ) (l : Lit) → allow ≤ levels → (first end : ℕ) (h : Stood T ms ws ts allow e l first end i) →
    (k : Stood T ms ws ts allow e l first end place) × Leads T ws h.tree i k.tree place

module _ (ms ws ts : List ℕ) (i : ℕ) where
  pub sofar-start : Sofar ms ws ts i i
  sofar-start T allow e l most first end h = (h, stays)

  module _ (place : ℕ) (so : Sofar ms ws ts i place) where
    pub sofar-stay : (r : Option ℕ) → r ≡ None → StepAt ms ws ts place r → TakesAt ms ws ts i place
    sofar-stay r d k T allow e l most first end h =
        let z = so T allow e l most first end h in
        (record { stood = z.0; plain = subst (StepAt ms ws ts place) d k z.0.tree z.0.there }, z.1)

    module _ (r : Option ℕ) (j : ℕ) (d : r ≡ Some j) (k : StepAt ms ws ts place r) where
      branch : (T : Tables) (allow : ℕ) (e : Option ℕ) (l : Lit) (first end : ℕ) (z : Stood T ms ws ts allow e l first end place) → Branch ms ws ts z.tree place z.there.next j
      branch T allow e l first end z = subst (StepAt ms ws ts place) d k z.tree z.there

      pub sofar-past : j ≤ place → TakesAt ms ws ts i place
      sofar-past n T allow e l most first end h =
          let z = (so T allow e l most first end h).0 in
          let b = (branch T allow e l first end z).behind in
          absurd (omega arith)

      pub sofar-next : Sofar ms ws ts i j
      sofar-next T allow e l most first end h =
          let z = so T allow e l most first end h in
          let a = advance T ms ws ts e l first end allow most place j z.0 (branch T allow e l first end z.0) in
          (a.0, leads_then z.1 a.1)

    pub sofar-out : length ws ≤ place → TakesAt ms ws ts i place
    sofar-out n T allow e l most first end h =
        let z = (so T allow e l most first end h).0 in
        let k = inside ws ts z.tree place z.there in
        absurd (omega arith)
