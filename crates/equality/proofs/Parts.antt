-- What a set is made of: one law for each way out.
-- Assumes nothing.
use Rattle.std.proofs.Common.{None, Option, Some, Ok}
use mathlib.Core.Path.{◌≡◌, refl, sym, ap, ◌∙◌, subst}
use mathlib.Core.Bool.{Bool, true, false, true≢false}
use mathlib.Core.List.{List, [], ◌∷◌}
use Prim.Native.Nat.{ℕ, suc, ◌+◌, ◌≤◌, ◌%◌, ◌^◌}
use native.Mathlib.Omega.{arith}
use types.Run.{OneOf, miss}
use denote.Enum.Declared.{tag_of}
use Rattle.arena.specs.Node.{after_at}
use Rattle.arena.specs.Stands.{TreeStands}
use Rattle.arena.specs.Tree.{Tree, Trees, bit_vec as bits, string as quoted, symbol, app, nil, cons}
use Rattle.arena.proofs.Layouts.{stands_after, stands-longer}
use Rattle.refusals.specs.declared.Refusal.TheVariants.{UnmatchedType, UnmatchedRecordType, SetUnionNonLiterals}
use Rattle.ground.specs.Lists.{at}
use Rattle.words.specs.Extension.{signed}
use Rattle.tables.specs.Sort.{Sort, bool, string, ext, bit_vec, option_of, set_of, entity_of, record_of, Tables}
use Rattle.shapes.specs.declared.shape.Found.{Found}
use Rattle.shapes.specs.Shape.{Shape, uncovered, as_none, as_some, some_of, as_empty, singleton, union, extension, indexed, made, other, unary, binary, ite, shape}
use Rattle.shapes.specs.Shows.{Standing, Shows, ShapeAt, PartsAt}
use Rattle.shapes.specs.contracts.shape.Found as FoundType
use Rattle.sorts.specs.Sort.{read_sort, levels}
use Rattle.values.specs.Value.{Value, Values, v_bool, v_ext, v_bits, v_none, v_some, v_set, v_entity, v_record, v_nil, v_cons, union as both}
use Rattle.values.proofs.Compares.{form_of}
use Rattle.values.proofs.Holds.{held-set}
use Rattle.means.specs.Literal.{Lit, made_row, read_with}
use Rattle.well_sorted.proofs.Results.{refuses, ok_same, went, passed, was-found}
use Rattle.well_sorted.proofs.Readings.{Reading, r-bits, r-string, r_true, r_false, r-member, reading}
use Rattle.settled.specs.Settled.{Settled}
use Rattle.settled.specs.Taken.{ite_shape, is_ite}
use Rattle.forms.proofs.Arms.{Accepts, app-accepts, is_none, is_as_some, is_some, is-extension, is-indexed, is-unary, is-binary, is-entity}
use Rattle.forms.proofs.Parts.{heads, Heads, behind-head, settled_in}
use Rattle.equality.specs.declared.part.Part.{Part}
use Rattle.equality.specs.Part.{PartSays, PartAt}

-- a set is an application
set-app : (T : Tables) (a : ℕ) (e : Option ℕ) (t : Tree) (l : Lit) (vs : Values) → read_with T true (suc a) e t ≡ Ok l → l.value ≡ v_set vs → (us : Trees) × (t ≡ app us)
set-app T a e t l vs m h = go t l.row l.value (reading T true a e t l m) (ap form_of h)
  where
    go : (t : Tree) (row : ℕ) (v : Value) → Reading true T a e t row v → form_of v ≡ 6 → (us : Trees) × (t ≡ app us)
    go (bits w n) row v (r-bits q) h = absurd (omega arith)
    go (quoted s) row v (r-string q) h = absurd (omega arith)
    go (symbol s) row v (r_true q) h = absurd (omega arith)
    go (symbol s) row v (r_false q) h = absurd (omega arith)
    go (symbol s) row v (r-member i m q p) h = absurd (omega arith)
    go (app us) row v r h = (us, refl)
    go (Rattle.arena.specs.Tree.numeral _) row v r h = elim r [ ]

-- the shapes of sets
abbrev set_shape : Shape → Bool
set_shape uncovered = false
set_shape (as_none t) = false
set_shape (as_some t v) = false
set_shape (some_of v) = false
set_shape (as_empty t) = true
set_shape (singleton v) = true
set_shape (union v w) = true
set_shape (extension x n) = false
set_shape (indexed ds w) = false
set_shape (made f us) = false
set_shape other = false
set_shape (unary op v) = false
set_shape (binary op v w) = false
set_shape (ite c v w) = false

same_set : (vs ws : Values) → v_set vs ≡ v_set ws → vs ≡ ws
same_set vs ws e = cc

module _ (ws ts : List ℕ) (i : ℕ) (T : Tables) (ms : List ℕ) (below : ℕ) (e : Option ℕ) (l : Lit) (us : Trees) (s : Standing (app us) ws ts i) (read : read_with T true (suc below) e (app us) ≡ Ok l)
    (settled : Settled T ms ws ts i s.next) (vs : Values) (is : l.value ≡ v_set vs) where
  accepted : (x : Shape) → shape us ≡ x → Accepts T below e l x
  accepted x d = subst (Accepts T below e l) d (app-accepts T below e l us read)

  pub as_empty_lem : (t : Tree) → shape us ≡ as_empty t → PartSays T ms ws ts below i s.next us vs Part.Empty
  as_empty_lem t d =
      let w = went _ _ l (accepted (as_empty t) d) in
      let z = went _ _ l w.next in
      (t, d, same_set vs v_nil (sym is ∙ ap (λ (k : Lit). k.value) (sym (ok_same z.next))))

  pub as_one : (v : Tree) (n : ℕ) → shape us ≡ singleton v → n ≡ after_at ws (i + 1) → PartSays T ms ws ts below i s.next us vs (Part.One n)
  as_one v n d p =
      let w = went _ _ l (accepted (singleton v) d) in
      let z = went _ _ l w.next in
      let y = went _ _ l z.next in
      let b = behind-head ws ts us (cons v nil) (subst (Heads us) d (heads us)) i s n p in
      let g : s.next ≡ b.there.mid = b.there.others.next in
      let f = b.behind in
      record {
        tree = v;
        shaped = d;
        expected = w.got;
        member = z.got;
        stood = record {
          tree = v;
          there = record { next = b.there.mid; from = b.from; rest = b.there.off; there = b.there.first };
          behind = omega arith;
          within = omega arith;
          reads = z.first;
          settled = settled_in T ms ws ts i s.next n b.there.mid settled (omega arith) (omega arith);
        };
        same = refl;
        placed = p;
        are = same_set vs (v_cons z.got.value v_nil) (sym is ∙ ap (λ (k : Lit). k.value) (sym (ok_same y.next)));
      }

  pub as_both : (v w : Tree) (left right : ℕ) → shape us ≡ union v w → left ≡ after_at ws (i + 1) → right ≡ after_at ws left → PartSays T ms ws ts below i s.next us vs (Part.Both left right)
  as_both v w left right d p q =
      let f = went _ _ l (accepted (union v w) d) in
      let z = went _ _ l f.next in
      let c = passed _ UnmatchedType _ l z.next in
      let y = went _ _ l c.1 in
      let x = went _ _ l y.next in
      let b = behind-head ws ts us (cons v (cons w nil)) (subst (Heads us) d (heads us)) i s left p in
      let m : b.there.mid ≡ right = stands_after ws ts v left b.there.mid b.from b.there.off b.there.first ∙ sym q in
      let one = stands-longer ws ts v left b.there.mid b.from b.there.off b.there.first in
      let two = stands-longer ws ts w b.there.mid b.there.others.mid b.there.off b.there.others.off b.there.others.first in
      let end : s.next ≡ b.there.others.mid = b.there.others.others.next in
      let h = b.behind in
      record {
        one = v;
        other = w;
        shaped = d;
        expected = e;
        first = f.got;
        second = z.got;
        firsts = y.got;
        seconds = x.got;
        at_left = record {
          tree = v;
          there = record { next = b.there.mid; from = b.from; rest = b.there.off; there = b.there.first };
          behind = omega arith;
          within = omega arith;
          reads = f.first;
          settled = settled_in T ms ws ts i s.next left b.there.mid settled (omega arith) (omega arith);
        };
        at_right = record {
          tree = w;
          there = record { next = b.there.others.mid; from = b.there.off; rest = b.there.others.off; there = subst (λ (n : ℕ). TreeStands w ws ts n b.there.others.mid b.there.off b.there.others.off) m b.there.others.first };
          behind = omega arith;
          within = omega arith;
          reads = z.first;
          settled = settled_in T ms ws ts i s.next right b.there.others.mid settled (omega arith) (omega arith);
        };
        same_left = refl;
        same-right = refl;
        left-placed = p;
        right-placed = q ∙ ap (λ (n : ℕ). after_at ws n) p;
        apart = omega arith;
        first-is = held-set f.got.value y.got (was-found SetUnionNonLiterals _ _ y.first);
        second_is = held-set z.got.value x.got (was-found SetUnionNonLiterals _ _ x.first);
        are = same_set vs (both y.got x.got) (sym is ∙ ap (λ (k : Lit). k.value) (sym (ok_same x.next)));
      }

  -- what is no set
  clash : {A : Type 0} (v : Value) → l.value ≡ v → (form_of v ≡ 6 → ⊥) → A
  clash v q n = absurd (n (ap form_of (sym q ∙ is)))

  made-clash : {A : Type 0} (f : List ℕ) (us : Trees) → Accepts T below e l (made f us) → A
  made-clash f us m =
      let w = went _ _ l m in
      go w.got (at T.sorts w.got) w.next
    where
      go : {A : Type 0} (row : ℕ) (o : Option Sort) → made_row T (λ t. read_sort T below t) (λ x u. read_with T true below x u) row o us ≡ Ok l → A
      go row None m = refuses m
      go row (Some bool) m = refuses m
      go row (Some string) m = refuses m
      go row (Some (ext x)) m = refuses m
      go row (Some (bit_vec w)) m = refuses m
      go row (Some (option_of q)) m = refuses m
      go row (Some (set_of q)) m = refuses m
      go row (Some (entity_of name)) m = let k = is-entity T below e l row us m in clash (v_entity row k.0) k.2 (λ z. absurd (omega arith))
      go row (Some (record_of name fs)) m =
          let q = passed _ UnmatchedRecordType _ l m in
          let w = went _ _ l q.1 in
          clash (v_record row w.got) (ap (λ (k : Lit). k.value) (sym (ok_same w.next))) (λ z. absurd (omega arith))

  no-set : {A : Type 0} (x : Shape) → shape us ≡ x → set_shape x ≡ false → is_ite (app us) ≡ false → suc below ≤ levels → A
  no-set uncovered d h p most = refuses (accepted uncovered d)
  no-set (as_none t) d h p most = clash v_none (is_none T below e l t (accepted (as_none t) d)) (λ z. absurd (omega arith))
  no-set (as_some t v) d h p most = let k = is_as_some T below e l t v (accepted (as_some t v) d) in clash (v_some k.inner.value) k.is (λ z. absurd (omega arith))
  no-set (some_of v) d h p most = let k = is_some T below e l v (accepted (some_of v) d) in clash (v_some k.inner.value) k.is (λ z. absurd (omega arith))
  no-set (as_empty t) d h p most = absurd (true≢false h)
  no-set (singleton v) d h p most = absurd (true≢false h)
  no-set (union v w) d h p most = absurd (true≢false h)
  no-set (extension x n) d h p most = clash (v_ext x (signed 64 (n % 2 ^ 64))) (is-extension T below e l x n (accepted (extension x n) d)) (λ z. absurd (omega arith))
  no-set (indexed ds w) d h p most = let k = is-indexed T below e l ds w (accepted (indexed ds w) d) in clash (v_bits w k.number) k.is (λ z. absurd (omega arith))
  no-set (made f vs) d h p most = made-clash f vs (accepted (made f vs) d)
  no-set other d h p most = refuses (accepted other d)
  no-set (unary op v) d h p most = let k = is-unary T below e l (omega arith) op v (accepted (unary op v) d) in clash (v_bool k.truth) k.is (λ z. absurd (omega arith))
  no-set (binary op v w) d h p most = let k = is-binary T below e l (omega arith) op v w (accepted (binary op v w) d) in clash (v_bool k.truth) k.is (λ z. absurd (omega arith))
  no-set (ite c v w) d h p most = absurd (true≢false (sym (ap ite_shape d) ∙ p))

-- by what is found
module _ (ws ts : List ℕ) (i : ℕ) (p : Option ℕ) (parts : PartsAt ws i p) where
  -- the tree is an application, its place the same
  by-app : (r : Part) → ((T : Tables) (ms : List ℕ) (below : ℕ) (e : Option ℕ) (l : Lit) (us : Trees) (s : Standing (app us) ws ts i) → read_with T true (suc below) e (app us) ≡ Ok l → Settled T ms ws ts i s.next →
      is_ite (app us) ≡ false → (vs : Values) → l.value ≡ v_set vs → suc below ≤ levels → PartSays T ms ws ts below i s.next us vs r) → PartAt ws ts i r
  by-app r f T ms below e l first end most h vs is =
      let t = h.stood in
      let k = set-app T below e t.tree l vs t.reads is in
      let s : Standing (app k.0) ws ts i =
      record { next = t.there.next; from = t.there.from; rest = t.there.rest; there = subst (λ (x : Tree). TreeStands x ws ts i t.there.next t.there.from t.there.rest) k.1 t.there.there } in
      (k.0, k.1, f T ms below e l k.0 s (subst (λ (x : Tree). read_with T true (suc below) e x ≡ Ok l) k.1 t.reads) t.settled (ap is_ite (sym k.1) ∙ h.plain) vs is most)

  pub part-atom : p ≡ None → PartAt ws ts i Part.NoSet
  part-atom d = by-app Part.NoSet (λ T ms below e l us s m g q vs is most. absurd (true≢false (subst (PartsAt ws i) d parts ts (app us) s)))

  module _ (found : Found) (shown : ShapeAt ws ts i found) where
    as_found : (f : Found) → found ≡ f → ShapeAt ws ts i f
    as_found f d = subst (ShapeAt ws ts i) d shown

    pub part-empty : (sort : ℕ) → found ≡ Found.AsEmpty sort → PartAt ws ts i Part.Empty
    part-empty sort d = by-app Part.Empty (λ T ms below e l us s m g q vs is most. let k = (as_found (Found.AsEmpty sort) d).1 us s in as_empty_lem ws ts i T ms below e l us s m g vs is k.0 k.1)

    pub part-one : (n : ℕ) → found ≡ Found.Singleton n → PartAt ws ts i (Part.One n)
    part-one n d = by-app (Part.One n) (λ T ms below e l us s m g q vs is most.
        let k = as_found (Found.Singleton n) d in
        let z = k.1 us s in
        as_one ws ts i T ms below e l us s m g vs is z.0 n z.1 k.0)

    pub part-both : (left right : ℕ) → found ≡ Found.Union left right → PartAt ws ts i (Part.Both left right)
    part-both left right d = by-app (Part.Both left right) (λ T ms below e l us s m g q vs is most.
        let k = as_found (Found.Union left right) d in
        let z = k.1 us s in
        as_both ws ts i T ms below e l us s m g vs is z.0 z.1 left right z.2 k.0.0 (k.0.1 ∙ ap (λ (n : ℕ). after_at ws n) (sym k.0.0)))

    pub part-other : OneOf (0 ∷ 1 ∷ 2 ∷ 3 ∷ 7 ∷ 8 ∷ 9 ∷ 10 ∷ 11 ∷ 12 ∷ 13 ∷ []) (tag_of FoundType.the_type found) → PartAt ws ts i Part.NoSet
    part-other h = by-app Part.NoSet (λ T ms below e l us s m g q vs is most. no-set ws ts i T ms below e l us s m g vs is (shape us) refl (go found h (shape us) (shown.1 us s)) q most)
      where
        go : (f : Found) → OneOf (0 ∷ 1 ∷ 2 ∷ 3 ∷ 7 ∷ 8 ∷ 9 ∷ 10 ∷ 11 ∷ 12 ∷ 13 ∷ []) (tag_of FoundType.the_type f) → (x : Shape) → Shows ws ts f x → set_shape x ≡ false
        go Found.Uncovered h x g = ap set_shape g
        go (Found.AsNone sort) h x g = ap set_shape g.1
        go (Found.AsSome sort value) h x g = ap set_shape g.2
        go (Found.SomeOf value) h x g = ap set_shape g.1
        go (Found.AsEmpty sort) h x g = absurd (miss (0 ∷ 1 ∷ 2 ∷ 3 ∷ 7 ∷ 8 ∷ 9 ∷ 10 ∷ 11 ∷ 12 ∷ 13 ∷ []) 4 tt h)
        go (Found.Singleton value) h x g = absurd (miss (0 ∷ 1 ∷ 2 ∷ 3 ∷ 7 ∷ 8 ∷ 9 ∷ 10 ∷ 11 ∷ 12 ∷ 13 ∷ []) 5 tt h)
        go (Found.Union left right) h x g = absurd (miss (0 ∷ 1 ∷ 2 ∷ 3 ∷ 7 ∷ 8 ∷ 9 ∷ 10 ∷ 11 ∷ 12 ∷ 13 ∷ []) 6 tt h)
        go (Found.Extension kind low) h x g = ap set_shape g.1
        go (Found.Indexed offset size low high) h x g = ap set_shape g.1
        go (Found.Made offset size first many) h x g = ap set_shape g.2
        go Found.Other h x g = ap set_shape g
        go (Found.Unary op value) h x g = ap set_shape g.1
        go (Found.Binary op left right) h x g = ap set_shape g.2
        go (Found.Ite condition left right) h x g = ap set_shape g.3
