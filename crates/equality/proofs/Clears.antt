-- The members of a set noted: none of them, and whether all are.
-- Assumes nothing.
use Rattle.std.proofs.Common.{Option, Ok}
use mathlib.Core.Path.{◌≡◌, refl, sym, ap, ap₂, ◌∙◌, subst}
use mathlib.Core.Bool.{Bool, true, false, ◌&&◌}
use mathlib.Core.List.{List, [], ◌∷◌, ◌++◌, map}
use Prim.Native.Nat.{ℕ, zero, suc, ◌+◌, ◌-◌, ◌*◌, ◌/◌, ◌≤◌, ◌<◌}
use native.Mathlib.Omega.{arith}
use lib.ListN.{length}
use Rattle.ground.specs.Lists.{all}
use Rattle.ground.proofs.Tests.{and-true}
use Rattle.order.specs.Every.{Every, none, also}
use Rattle.order.proofs.Everies.{every_map}
use Rattle.arena.specs.Stands.{TreeStands}
use Rattle.arena.specs.Tree.{Tree, Trees, app}
use Rattle.arena.proofs.Layouts.{stands-longer}
use Rattle.tables.specs.Sort.{Tables}
use Rattle.shapes.specs.Shape.{shape}
use Rattle.shapes.specs.Shows.{Standing}
use Rattle.sorts.specs.Sort.{levels}
use Rattle.values.specs.Value.{Values, v_set}
use Rattle.means.specs.Literal.{Lit, read_with}
use Rattle.well_sorted.proofs.Results.{refuses}
use Rattle.marks.specs.Mark.{marked, remembered}
use Rattle.marks.proofs.Marks.{here-remembered, kept-none, kept_then, kept-wider, kept-remembered}
use Rattle.settled.specs.Taken.{Stood, TakesAt}
use Rattle.equality.specs.declared.part.Part.{Part}
use Rattle.equality.specs.Part.{PartSays, PartAt}
use Rattle.equality.specs.Singles.{singles_of, singles, noted}
use Rattle.equality.specs.Notes.{Notes, OfSet, Cleared, ClearsAt, Met, MetAt}
use Rattle.equality.proofs.Aside.{aside}
use Rattle.equality.proofs.Singles.{along, Bound, bounded}

-- what is noted of nodes that are kept
noted-kept : (ms ns : List ℕ) (ps : List ℕ) → Every (λ p. marked ns p ≡ marked ms p) ps → noted ns ps ≡ noted ms ps
noted-kept ms ns [] none = refl
noted-kept ms ns (p ∷ ps) (also e h) = ap₂ (λ (b : Bool) (bs : List Bool). b ∷ bs) e (noted-kept ms ns ps h)

noted-both : (ms ps qs : List ℕ) → noted ms (ps ++ qs) ≡ noted ms ps ++ noted ms qs
noted-both ms [] qs = refl
noted-both ms (p ∷ ps) qs = ap (λ (bs : List Bool). marked ms p ∷ bs) (noted-both ms ps qs)

none_both : (ps qs : List ℕ) → map (λ p. false) (ps ++ qs) ≡ map (λ p. false) ps ++ map (λ p. false) qs
none_both [] qs = refl
none_both (p ∷ ps) qs = ap (λ (bs : List Bool). false ∷ bs) (none_both ps qs)

all_both : (bs cs : List Bool) → all (λ b. b) (bs ++ cs) ≡ (all (λ b. b) bs && all (λ b. b) cs)
unfolding all
all_both [] cs = refl
all_both (true ∷ bs) cs = all_both bs cs
all_both (false ∷ bs) cs = refl

notes-then : (T : Tables) (ms ns os ws ts : List ℕ) (first end a b c d : ℕ) → first / 2 ≤ a / 2 → b / 2 ≤ end / 2 → first / 2 ≤ c / 2 → d / 2 ≤ end / 2 → Notes T ms ns ws ts a b → Notes T ns os ws ts c d → Notes T ms os ws ts first end
notes-then T ms ns os ws ts first end a b c d p q r s h k =
    record { kept = kept_then (kept-wider first end p q h.kept) (kept-wider first end r s k.kept); settled = λ i j z. k.settled i j (h.settled i j z) }

-- a set at a node, opened where no branch is left to take
pub record Opened (T : Tables) (ms ws ts : List ℕ) (i j next : ℕ) (r : Part) (below : ℕ) (ps : List ℕ) (vs : Values) : Type 0 where
  pub us : Trees
  pub there : Standing (app us) ws ts j
  pub from : i ≤ j
  pub to : there.next ≤ next
  pub says : PartSays T ms ws ts below j there.next us vs r
  pub are : ps ≡ singles_of T ws (λ t n. singles T ws below t n) j (shape us)

module _ (ms ws ts : List ℕ) (i j : ℕ) (takes : TakesAt ms ws ts i j) (r : Part) (part : PartAt ws ts j r) where
  opened : (T : Tables) (below : ℕ) (e : Option ℕ) (l : Lit) (first end : ℕ) → suc below ≤ levels → (h : Stood T ms ws ts (suc below) e l first end i) (vs : Values) → l.value ≡ v_set vs →
      Opened T ms ws ts i j h.there.next r below (singles T ws (suc below) h.tree i) vs
  unfolding singles
  opened T below e l first end most h vs is =
      let h' : Stood T ms ws ts (suc below) e l i h.there.next i = record { tree = h.tree; there = h.there; behind = omega arith; within = omega arith; reads = h.reads; settled = h.settled } in
      let k = takes T (suc below) e l most i h.there.next h' in
      let t = k.0.stood in
      let p = part T ms below e l i h.there.next most k.0 vs is in
      record {
        us = p.0;
        there = record { next = t.there.next; from = t.there.from; rest = t.there.rest; there = subst (λ (x : Tree). TreeStands x ws ts j t.there.next t.there.from t.there.rest) p.1 t.there.there };
        from = t.behind;
        to = t.within;
        says = p.2;
        are = along T ws (suc below) most e h.tree t.tree l i j h.reads k.1 ∙ ap (λ (x : Tree). singles T ws (suc below) x j) p.1;
      }

  -- one law for each part
  by_part : (allow : ℕ) (P : (T : Tables) → ℕ → List ℕ → Type 0) →
      ((T : Tables) (below : ℕ) (next : ℕ) (ps : List ℕ) (vs : Values) → suc below ≤ levels → below ≤ allow → next ≤ 128 * length ms → Opened T ms ws ts i j next r below ps vs → P T next ps) → OfSet ms ws ts i allow P
  unfolding read_with
  by_part allow P f T zero e l first end most fuel h vs is room = refuses h.reads
  by_part allow P f T (suc below) e l first end most fuel h vs is room =
      f T below h.there.next (singles T ws (suc below) h.tree i) vs most (omega arith) room (opened T below e l first end most h vs is)

  pub clear-empty : (allow : ℕ) → r ≡ Part.Empty → ClearsAt ms ms ws ts i allow
  clear-empty allow d = by_part allow (Cleared ms ms ws ts i) (λ T below next ps vs most fuel room o.
      let s = subst (PartSays T ms ws ts below j o.there.next o.us vs) d o.says in
      let e : ps ≡ [] = o.are ∙ ap (singles_of T ws (λ t n. singles T ws below t n) j) s.1 in
      (record { kept = kept-none ms i next; settled = λ x y h. h }, ap (noted ms) e ∙ sym (ap (map (λ p. false)) e)))

  pub met-empty : (allow : ℕ) → r ≡ Part.Empty → MetAt ms ws ts i allow true
  unfolding all
  met-empty allow d = by_part allow (Met ms true) (λ T below next ps vs most fuel room o.
      let s = subst (PartSays T ms ws ts below j o.there.next o.us vs) d o.says in
      let e : ps ≡ [] = o.are ∙ ap (singles_of T ws (λ t n. singles T ws below t n) j) s.1 in
      sym (ap (λ (x : List ℕ). all (λ b. b) (noted ms x)) e))

  pub part_none : (allow : ℕ) (P : (T : Tables) → ℕ → List ℕ → Type 0) → r ≡ Part.NoSet → OfSet ms ws ts i allow P
  part_none allow P d = by_part allow P (λ T below next ps vs most fuel room o. absurd (subst (PartSays T ms ws ts below j o.there.next o.us vs) d o.says))

  module _ (n : ℕ) (d : r ≡ Part.One n) where
    pub clear-one : (allow : ℕ) → ClearsAt ms (remembered ms j false) ws ts i allow
    clear-one allow = by_part allow (Cleared ms (remembered ms j false) ws ts i) (λ T below next ps vs most fuel room o.
        let s = subst (PartSays T ms ws ts below j o.there.next o.us vs) d o.says in
        let e : ps ≡ j ∷ [] = o.are ∙ ap (singles_of T ws (λ t n. singles T ws below t n) j) s.shaped in
        let f = o.from in
        let g = o.to in
        let m = stands-longer ws ts s.stood.tree n s.stood.there.next s.stood.there.from s.stood.there.rest s.stood.there.there in
        let x = s.stood.behind in
        let y = s.stood.within in
        let in_words : j / 128 < length ms = omega arith in (
          record { kept = kept-remembered ms j false i next (omega arith) (omega arith); settled = λ a b h. aside ws ts T ms o.us s.tree j o.there s.shaped false a b h },
          ap (noted (remembered ms j false)) e ∙ ap (λ (b : Bool). b ∷ []) (here-remembered ms j false in_words) ∙ sym (ap (map (λ p. false)) e),
        ))

    pub met-one : (allow : ℕ) (b : Bool) → b ≡ marked ms j → MetAt ms ws ts i allow b
    unfolding all
    met-one allow b q = by_part allow (Met ms b) (λ T below next ps vs most fuel room o.
        let s = subst (PartSays T ms ws ts below j o.there.next o.us vs) d o.says in
        let e : ps ≡ j ∷ [] = o.are ∙ ap (singles_of T ws (λ t n. singles T ws below t n) j) s.shaped in
        q ∙ sym (ap (λ (x : List ℕ). all (λ b. b) (noted ms x)) e ∙ and-true (marked ms j)))

  module _ (left right : ℕ) (d : r ≡ Part.Both left right) where
    -- a set of two parts has a level below it
    pub both_nested : (allow : ℕ) (P : (T : Tables) → ℕ → List ℕ → Type 0) → allow ≡ 0 → OfSet ms ws ts i allow P
    unfolding read_with
    both_nested allow P z = by_part allow P (λ T below next ps vs most fuel room o.
        let s = subst (PartSays T ms ws ts below j o.there.next o.us vs) d o.says in
        let q : below ≡ 0 = omega arith in
        refuses (subst (λ (a : ℕ). read_with T true a s.expected s.at_left.tree ≡ Ok s.first) q s.at_left.reads))

    joined : (T : Tables) (below next : ℕ) (ps : List ℕ) (vs : Values) (o : Opened T ms ws ts i j next r below ps vs) →
        let s = subst (PartSays T ms ws ts below j o.there.next o.us vs) d o.says in
        ps ≡ singles T ws below s.at_left.tree left ++ singles T ws below s.at_right.tree right
    joined T below next ps vs o =
        let s = subst (PartSays T ms ws ts below j o.there.next o.us vs) d o.says in
        o.are ∙ ap (singles_of T ws (λ t n. singles T ws below t n) j) s.shaped
        ∙ ap₂ (λ (x y : List ℕ). x ++ y)
        (ap₂ (λ (t : Tree) (n : ℕ). singles T ws below t n) (sym s.same_left) (sym s.left-placed))
        (ap₂ (λ (t : Tree) (n : ℕ). singles T ws below t n) (sym s.same-right) (sym s.right-placed))

    pub clear_both : (allow : ℕ) → (allow ≡ 0 → ⊥) → (ns os : List ℕ) → ClearsAt ms ns ws ts left (allow - 1) → ClearsAt ns os ws ts right (allow - 1) → ClearsAt ms os ws ts i allow
    clear_both allow some ns os f g = by_part allow (Cleared ms os ws ts i) (λ T below next ps vs most fuel room o.
        let s = subst (PartSays T ms ws ts below j o.there.next o.us vs) d o.says in
        let x = s.at_left.within in
        let y = s.at_right.within in
        let u = s.at_left.behind in
        let v = s.at_right.behind in
        let w = s.apart in
        let to = o.to in
        let from = o.from in
        let one = f T below s.expected s.first (j + 2) o.there.next (omega arith) (omega arith) s.at_left s.firsts s.first-is (omega arith) in
        let long = one.0.kept.long in
        let right-stood : Stood T ns ws ts below s.expected s.second (j + 2) o.there.next right =
        record { tree = s.at_right.tree; there = s.at_right.there; behind = v; within = y; reads = s.at_right.reads; settled = one.0.settled right s.at_right.there.next s.at_right.settled } in
        let two = g T below s.expected s.second (j + 2) o.there.next (omega arith) (omega arith) right-stood s.seconds s.second_is (omega arith) in
        let bound = bounded T ws ts below (omega arith) s.expected s.at_left.tree s.first left s.at_left.there s.at_left.reads in
        let lefts = singles T ws below s.at_left.tree left in
        let rights = singles T ws below s.at_right.tree right in
        let e : ps ≡ lefts ++ rights = joined T below next ps vs o in
        let still : noted os lefts ≡ noted ns lefts = noted-kept ns os lefts (every_map (Bound left s.at_left.there.next) (λ p. marked os p ≡ marked ns p) (λ p q. let z = q.1 in two.0.kept.before p (omega arith)) lefts bound) in (
          notes-then T ms ns os ws ts i next left s.at_left.there.next right s.at_right.there.next (omega arith) (omega arith) (omega arith) (omega arith) one.0 two.0,
          ap (noted os) e ∙ noted-both os lefts rights ∙ ap₂ (λ (x y : List Bool). x ++ y) (still ∙ one.1) two.1 ∙ sym (none_both lefts rights) ∙ sym (ap (map (λ p. false)) e),
        ))

    pub met-both : (allow : ℕ) → (allow ≡ 0 → ⊥) → (b c : Bool) → MetAt ms ws ts left (allow - 1) b → MetAt ms ws ts right (allow - 1) c → MetAt ms ws ts i allow (b && c)
    met-both allow some b c f g = by_part allow (Met ms (b && c)) (λ T below next ps vs most fuel room o.
        let s = subst (PartSays T ms ws ts below j o.there.next o.us vs) d o.says in
        let x = s.at_left.within in
        let y = s.at_right.within in
        let to = o.to in
        let one = f T below s.expected s.first (j + 2) o.there.next (omega arith) (omega arith) s.at_left s.firsts s.first-is (omega arith) in
        let two = g T below s.expected s.second (j + 2) o.there.next (omega arith) (omega arith) s.at_right s.seconds s.second_is (omega arith) in
        let lefts = singles T ws below s.at_left.tree left in
        let rights = singles T ws below s.at_right.tree right in
        let e : ps ≡ lefts ++ rights = joined T below next ps vs o in
        ap₂ (λ (x y : Bool). x && y) one two ∙ sym (ap (λ (x : List ℕ). all (λ b. b) (noted ms x)) e ∙ ap (all (λ b. b)) (noted-both ms lefts rights) ∙ all_both (noted ms lefts) (noted ms rights)))

    -- one that is not in the left part is enough
    pub met-left : (allow : ℕ) → (allow ≡ 0 → ⊥) → (b : Bool) → b ≡ false → MetAt ms ws ts left (allow - 1) b → MetAt ms ws ts i allow false
    met-left allow some b z f = by_part allow (Met ms false) (λ T below next ps vs most fuel room o.
        let s = subst (PartSays T ms ws ts below j o.there.next o.us vs) d o.says in
        let x = s.at_left.within in
        let to = o.to in
        let one = f T below s.expected s.first (j + 2) o.there.next (omega arith) (omega arith) s.at_left s.firsts s.first-is (omega arith) in
        let lefts = singles T ws below s.at_left.tree left in
        let rights = singles T ws below s.at_right.tree right in
        let e : ps ≡ lefts ++ rights = joined T below next ps vs o in
        ap (λ (x : Bool). x && all (λ b. b) (noted ms rights)) (sym z ∙ one) ∙ sym (ap (λ (x : List ℕ). all (λ b. b) (noted ms x)) e ∙ ap (all (λ b. b)) (noted-both ms lefts rights) ∙ all_both (noted ms lefts) (noted ms rights)))
