-- An accepted application: what was read below it, and the value that it is, by its shape.
-- Assumes nothing.
use Rattle.std.proofs.Common.{None, Option, Some, Ok}
use mathlib.Core.Path.{◌≡◌, refl, sym, ap, ◌∙◌, subst}
use mathlib.Core.Bool.{Bool, true, false, ◌&&◌, true≢false}
use mathlib.Core.List.{List, [], ◌∷◌}
use Prim.Native.Nat.{ℕ, suc, ◌%◌, ◌^◌, ◌<◌}
use lib.Dec.{leb, ltb}
use borrow.Author.Tests.{ltb-true}
use Rattle.ground.specs.Lists.{at}
use Rattle.ground.proofs.Tests.{by_test}
use Rattle.refusals.specs.declared.Refusal.TheVariants.{IntegerOverflow, ZeroWidthBitVec, UnknownLiteral, UnmatchedType, UnmatchedFieldType, UnmatchedRecordType, SetUnionNonLiterals}
use Rattle.words.specs.declared.digits.Radix.{Radix}
use Rattle.words.specs.Extension.{signed}
use Rattle.words.specs.Run.{parsed}
use Rattle.arena.specs.Tree.{Tree, Trees, bit_vec as bits, numeral, string as quoted, symbol, app, nil, cons}
use Rattle.tables.specs.Find.{named_sort}
use Rattle.tables.specs.Sort.{Ext, Sort, bool, string, ext, bit_vec, option_of, set_of, entity_of, record_of, Tables}
use Rattle.shapes.specs.Shape.{Shape, uncovered, unary, binary, ite, as_none, as_some, some_of, as_empty, singleton, union, extension, indexed, made, other, shape}
use Rattle.sorts.specs.Sort.{read_sort}
use Rattle.values.specs.Value.{Value, Values, v_bool, v_string, v_ext, v_bits, v_none, v_some, v_set, v_entity, v_record, v_nil, v_cons, union as both}
use Rattle.values.specs.HasSort.{FieldSorts, Loose}
use Rattle.means.specs.Literal.{Lit, unsigned, numbered, entity_lit, fields_of, same_count, made_row, app_lit, read, read_with}
use Rattle.values.proofs.Holds.{held-set}
use Rattle.well_sorted.proofs.Results.{refuses, ok_same, went, passed, was-found}
use Rattle.well_sorted.proofs.Readings.{Reading, r-bits, r-string, r_true, r_false, r-member, reading}
use Rattle.value_text.specs.Value.{Listed, l_nil, l_cons}

-- no set is any other value
abbrev pub set_of? : Value → Bool
set_of? (v_bool b) = false
set_of? (v_string s) = false
set_of? (v_ext e z) = false
set_of? (v_bits w n) = false
set_of? v_none = false
set_of? (v_some v) = false
set_of? (v_set vs) = true
set_of? (v_entity r s) = false
set_of? (v_record r vs) = false

pub no-set : {R : Type 0} (v : Value) (vs : Values) → set_of? v ≡ false → v ≡ v_set vs → R
no-set v vs h e = absurd (true≢false (sym (ap set_of? e) ∙ h))

-- the sets of two equal values
pub same_set : (vs ws : Values) → v_set vs ≡ v_set ws → vs ≡ ws
same_set vs ws e = cc

-- the one value inside
pub record Inner (T : Tables) (a : ℕ) (v : Tree) (make : Value → Value) (whole : Value) : Type 0 where
  pub expected : Option ℕ
  pub inner : Lit
  pub was : read T a expected v ≡ Ok inner
  pub is : make inner.value ≡ whole

pub record Both (T : Tables) (a : ℕ) (v w : Tree) (whole : Value) : Type 0 where
  pub expected : Option ℕ
  pub left : Lit
  pub right : Lit
  pub vs : Values
  pub ws : Values
  pub left-was : read T a expected v ≡ Ok left
  pub right-was : read T a expected w ≡ Ok right
  pub left_is : left.value ≡ v_set vs
  pub right_is : right.value ≡ v_set ws
  pub is : v_set (both vs ws) ≡ whole

pub record Numbered (digits : List ℕ) (w : ℕ) (whole : Value) : Type 0 where
  pub number : ℕ
  pub was : numbered (parsed Radix.Decimal (unsigned digits)) ≡ Ok number
  pub small : w < 2 ^ 32
  pub is : v_bits w number ≡ whole

module _ (T : Tables) (a : ℕ) (e : Option ℕ) (k : Lit) where
  abbrev pub Reads : Shape → Type 0
  Reads s = app_lit T (λ t. read_sort T a t) (λ x u. read T a x u) false e s ≡ Ok k

  pub app-reads : (us : Trees) → read T (suc a) e (app us) ≡ Ok k → Reads (shape us)
  unfolding read_with
  app-reads us m = m

  pub as_none_lem : (t : Tree) → Reads (as_none t) → v_none ≡ k.value
  as_none_lem t m =
      let w = went _ _ k m in
      let z = went _ _ k w.next in
      ap (λ (l : Lit). l.value) (ok_same z.next)

  pub as_some_lem : (t v : Tree) → Reads (as_some t v) → Inner T a v v_some k.value
  as_some_lem t v m =
      let w = went _ _ k m in
      let z = went _ _ k w.next in
      let y = went _ _ k z.next in
      let q = passed _ UnmatchedType _ k y.next in
      let x = went _ _ y.got y.first in
      record { expected = _; inner = z.got; was = z.first; is = ap (λ (l : Lit). l.value) (ok_same x.next ∙ ok_same q.1) }

  pub some_of_lem : (v : Tree) → Reads (some_of v) → Inner T a v v_some k.value
  some_of_lem v m =
      let w = went _ _ k m in
      let z = went _ _ k w.next in
      let y = went _ _ k z.next in
      record { expected = w.got; inner = z.got; was = z.first; is = ap (λ (l : Lit). l.value) (ok_same y.next) }

  pub as_empty_lem : (t : Tree) → Reads (as_empty t) → v_set v_nil ≡ k.value
  as_empty_lem t m =
      let w = went _ _ k m in
      let z = went _ _ k w.next in
      ap (λ (l : Lit). l.value) (ok_same z.next)

  pub as_singleton : (v : Tree) → Reads (singleton v) → Inner T a v (λ x. v_set (v_cons x v_nil)) k.value
  as_singleton v m =
      let w = went _ _ k m in
      let z = went _ _ k w.next in
      let y = went _ _ k z.next in
      record { expected = w.got; inner = z.got; was = z.first; is = ap (λ (l : Lit). l.value) (ok_same y.next) }

  pub as_union : (v w : Tree) → Reads (union v w) → Both T a v w k.value
  as_union v w m =
      let f = went _ _ k m in
      let z = went _ _ k f.next in
      let p = passed _ UnmatchedType _ k z.next in
      let y = went _ _ k p.1 in
      let x = went _ _ k y.next in
      record {
        expected = e;
        left = f.got;
        right = z.got;
        vs = y.got;
        ws = x.got;
        left-was = f.first;
        right-was = z.first;
        left_is = held-set f.got.value y.got (was-found SetUnionNonLiterals _ _ y.first);
        right_is = held-set z.got.value x.got (was-found SetUnionNonLiterals _ _ x.first);
        is = ap (λ (l : Lit). l.value) (ok_same x.next);
      }

  pub as_extension : (x : Ext) (n : ℕ) → Reads (extension x n) → v_ext x (signed 64 (n % 2 ^ 64)) ≡ k.value
  as_extension x n m = let w = went _ _ k m in ap (λ (l : Lit). l.value) (ok_same w.next)

  pub as_indexed : (ds : List ℕ) (w : ℕ) → Reads (indexed ds w) → Numbered ds w k.value
  as_indexed ds w m =
      let g = went _ _ k m in
      let o = passed _ IntegerOverflow _ k g.next in
      let q = (passed _ ZeroWidthBitVec _ k o.1).1 in
      by_test (ltb w 128 && leb (2 ^ w) g.got)
      (λ h. refuses (rw h at q))
      (λ h.
      let p = went _ _ k (rw h at q) in
      record { number = g.got; was = g.first; small = ltb-true w (2 ^ 32) o.0; is = ap (λ (l : Lit). l.value) (ok_same p.next) })

  -- (NAME ..), by the sort of NAME's row
  named-row : (f : List ℕ) (us : Trees) → Reads (made f us) → (row : ℕ) × (named_sort T f ≡ Some row) × (made_row T (λ t. read_sort T a t) (λ x u. read T a x u) row (at T.sorts row) us ≡ Ok k)
  named-row f us m =
      let w = went _ _ k m in
      (w.got, was-found UnknownLiteral (named_sort T f) w.got w.first, w.next)

  entity-arm : (row : ℕ) (us : Trees) → entity_lit row us ≡ Ok k → (s : List ℕ) × (us ≡ cons (quoted s) nil) × (v_entity row s ≡ k.value)
  entity-arm row nil m = refuses m
  entity-arm row (cons (bits w n) us) m = refuses m
  entity-arm row (cons (numeral n) us) m = refuses m
  entity-arm row (cons (quoted s) nil) m = (s, refl, ap (λ (l : Lit). l.value) (ok_same m))
  entity-arm row (cons (quoted s) (cons u us)) m = refuses m
  entity-arm row (cons (symbol s) us) m = refuses m
  entity-arm row (cons (app ts) us) m = refuses m

  pub made-name : (f : List ℕ) (us : Trees) → Reads (made f us) → (row : ℕ) × (named_sort T f ≡ Some row)
  made-name f us m = let n = named-row f us m in (n.0, n.1)

  pub as_entity : (f : List ℕ) (us : Trees) (row : ℕ) (name : List ℕ) → Reads (made f us) → named_sort T f ≡ Some row → at T.sorts row ≡ Some (entity_of name) →
      (s : List ℕ) × (us ≡ cons (quoted s) nil) × (v_entity row s ≡ k.value)
  as_entity f us row name m h g =
      let n = named-row f us m in
      let o : Some n.0 ≡ Some row = sym n.1 ∙ h in
      let q : n.0 ≡ row = cc in
      let p = subst (λ (j : ℕ). made_row T (λ t. read_sort T a t) (λ x u. read T a x u) j (at T.sorts j) us ≡ Ok k) q n.2 in
      entity-arm row us (subst (λ (s : Option Sort). made_row T (λ t. read_sort T a t) (λ x u. read T a x u) row s us ≡ Ok k) g p)

  pub as_record : (f : List ℕ) (us : Trees) (row : ℕ) (name fs : List ℕ) → Reads (made f us) → named_sort T f ≡ Some row → at T.sorts row ≡ Some (record_of name fs) →
      (vs : Values) × (same_count fs us ≡ true) × (fields_of (λ x u. read T a x u) fs us ≡ Ok vs) × (v_record row vs ≡ k.value)
  as_record f us row name fs m h g =
      let n = named-row f us m in
      let o : Some n.0 ≡ Some row = sym n.1 ∙ h in
      let q : n.0 ≡ row = cc in
      let p = subst (λ (j : ℕ). made_row T (λ t. read_sort T a t) (λ x u. read T a x u) j (at T.sorts j) us ≡ Ok k) q n.2 in
      let z = passed _ UnmatchedRecordType _ k (subst (λ (s : Option Sort). made_row T (λ t. read_sort T a t) (λ x u. read T a x u) row s us ≡ Ok k) g p) in
      let w = went _ _ k z.1 in
      (w.got, z.0, w.first, ap (λ (l : Lit). l.value) (ok_same w.next))

  -- neither is a set
  row-not-set : (row : ℕ) (o : Option Sort) (us : Trees) → made_row T (λ t. read_sort T a t) (λ x u. read T a x u) row o us ≡ Ok k → set_of? k.value ≡ false
  row-not-set row None us m = refuses m
  row-not-set row (Some bool) us m = refuses m
  row-not-set row (Some string) us m = refuses m
  row-not-set row (Some (ext x)) us m = refuses m
  row-not-set row (Some (bit_vec w)) us m = refuses m
  row-not-set row (Some (option_of q)) us m = refuses m
  row-not-set row (Some (set_of q)) us m = refuses m
  row-not-set row (Some (entity_of name)) us m = let n = entity-arm row us m in sym (ap set_of? n.2)
  row-not-set row (Some (record_of name fs)) us m =
      let z = passed _ UnmatchedRecordType _ k m in
      let w = went _ _ k z.1 in
      sym (ap (λ (l : Lit). set_of? l.value) (ok_same w.next))

  -- the shapes of sets
  abbrev pub set_shape : Shape → Bool
  set_shape uncovered = false
  set_shape (as_none t) = false
  set_shape (as_some t v) = false
  set_shape (some_of v) = false
  set_shape (as_empty t) = true
  set_shape (singleton v) = true
  set_shape (union v w) = true
  set_shape (extension x n) = false
  set_shape (indexed ds w) = false
  set_shape (made f us) = false
  set_shape other = false
  set_shape (unary op v) = false
  set_shape (binary op v w) = false
  set_shape (ite c v w) = false

  pub other-shape : (s : Shape) → Reads s → set_shape s ≡ false → set_of? k.value ≡ false
  other-shape uncovered m h = refuses m
  other-shape (as_none t) m h = sym (ap set_of? (as_none_lem t m))
  other-shape (as_some t v) m h = sym (ap set_of? (as_some_lem t v m).is)
  other-shape (some_of v) m h = sym (ap set_of? (some_of_lem v m).is)
  other-shape (as_empty t) m h = absurd (true≢false h)
  other-shape (singleton v) m h = absurd (true≢false h)
  other-shape (union v w) m h = absurd (true≢false h)
  other-shape (extension x n) m h = sym (ap set_of? (as_extension x n m))
  other-shape (indexed ds w) m h = sym (ap set_of? (as_indexed ds w m).is)
  other-shape (made f us) m h = let n = named-row f us m in row-not-set n.0 (at T.sorts n.0) us n.2
  other-shape other m h = refuses m
  other-shape (unary op v) m h = refuses m
  other-shape (binary op v w) m h = refuses m
  other-shape (ite c v w) m h = refuses m

  pub set-shape : (s : Shape) → Reads s → set_shape s ≡ true → (vs : Values) × (v_set vs ≡ k.value)
  set-shape uncovered m h = refuses m
  set-shape (as_none t) m h = absurd (true≢false (sym h))
  set-shape (as_some t v) m h = absurd (true≢false (sym h))
  set-shape (some_of v) m h = absurd (true≢false (sym h))
  set-shape (as_empty t) m h = (v_nil, as_empty_lem t m)
  set-shape (singleton v) m h = let i = as_singleton v m in (v_cons i.inner.value v_nil, i.is)
  set-shape (union v w) m h = let b = as_union v w m in (both b.vs b.ws, b.is)
  set-shape (extension x n) m h = absurd (true≢false (sym h))
  set-shape (indexed ds w) m h = absurd (true≢false (sym h))
  set-shape (made f us) m h = absurd (true≢false (sym h))
  set-shape other m h = absurd (true≢false (sym h))
  set-shape (unary op v) m h = refuses m
  set-shape (binary op v w) m h = refuses m
  set-shape (ite c v w) m h = refuses m

  -- what is read as a set is an application
  pub set-app : (t : Tree) (vs : Values) → read T (suc a) e t ≡ Ok k → k.value ≡ v_set vs → (us : Trees) × (t ≡ app us)
  set-app t vs m h = go t k.row k.value (reading T false a e t k m) h
    where
      go : (t : Tree) (row : ℕ) (v : Value) → Reading false T a e t row v → v ≡ v_set vs → (us : Trees) × (t ≡ app us)
      go (bits w n) row v (r-bits q) h = no-set _ vs refl h
      go (quoted s) row v (r-string q) h = no-set _ vs refl h
      go (symbol s) row v (r_true q) h = no-set _ vs refl h
      go (symbol s) row v (r_false q) h = no-set _ vs refl h
      go (symbol s) row v (r-member i m q p) h = no-set _ vs refl h
      go (app us) row v r h = (us, refl)
      go (numeral _) row v r h = elim r [ ]

-- the fields of a record, each of a sort
pub listed : (T : Tables) (a : ℕ) (fs : List ℕ) (us : Trees) (vs : Values) (gs : List ℕ) → same_count fs us ≡ true → fields_of (λ x u. read T a x u) fs us ≡ Ok vs → FieldSorts vs Loose T gs → Listed T a us vs
listed T a [] nil vs gs c m h = subst (λ (k : Values). Listed T a nil k) (ok_same m) l_nil
listed T a [] (cons u us) vs gs c m h = absurd (true≢false (sym c))
listed T a (f ∷ fs) nil vs gs c m h = absurd (true≢false (sym c))
listed T a (f ∷ fs) (cons u us) vs gs c m h =
    let w = went _ _ vs m in
    let q = passed _ UnmatchedFieldType _ vs w.next in
    let z = went _ _ vs q.1 in
    let e : v_cons w.got.value z.got ≡ vs = ok_same z.next in
    let g = subst (λ (k : Values). FieldSorts k Loose T gs) (sym e) h in
    subst (λ (k : Values). Listed T a (cons u us) k) e
    (l_cons (Some f) w.got w.first g.first g.head (listed T a fs us z.got g.rest c z.first g.tail))
