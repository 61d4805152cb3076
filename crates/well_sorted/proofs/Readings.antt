-- An accepted literal: by which arm it was read, and what was read and found on the way. The laws about literals go by it.
-- Assumes nothing.
use Rattle.std.proofs.Common.{None, Option, Some, Err, Ok, Result}
use mathlib.Core.Path.{◌≡◌, refl, sym, ap, ◌∙◌, subst}
use mathlib.Core.Bool.{Bool, true, false, cond, ◌&&◌, true≢false}
use mathlib.Core.List.{List, [], ◌∷◌}
use mathlib.Core.Logic.{inl, inr}
use Prim.Native.Nat.{ℕ, suc, ◌%◌, ◌^◌, ◌<◌}
use native.Mathlib.Omega.{arith}
use lib.Dec.{eqb, leb, ltb}
use lib.IntN.{◌+ℤ◌, ◌*ℤ◌}
use borrow.Author.Tests.{eqb-true, leb-false, lt-ltb}
use Rattle.ground.specs.Bytes.{bytes}
use Rattle.ground.specs.Lists.{at}
use Rattle.ground.proofs.Tests.{by_test}
use Rattle.refusals.specs.declared.Refusal.TheVariants.{IntegerOverflow, ZeroWidthBitVec, UnknownLiteral, UnmatchedType, UnmatchedFieldType, UnmatchedRecordType, InvalidOptionType, InvalidSetType, NotCovered, SetUnionNonLiterals}
use Rattle.words.specs.declared.digits.Radix.{Radix}
use Rattle.words.specs.Run.{parsed}
use Rattle.words.specs.Extension.{signed}
use Rattle.arena.specs.Tree.{Tree, Trees, bit_vec as bits, numeral, string as quoted, symbol, app, nil, cons}
use Rattle.arena.proofs.Texts.{same-equal}
use Rattle.tables.specs.Sort.{Ext, Sort, bool, string, ext, bit_vec, option_of, set_of, entity_of, record_of, Member, Tables}
use Rattle.tables.specs.Find.{named_sort, member_row}
use Rattle.shapes.specs.declared.shape.BinaryOp.{BinaryOp}
use Rattle.shapes.specs.declared.shape.UnaryOp.{UnaryOp}
use Rattle.shapes.specs.Shape.{Shape, is, shape}
use Rattle.sorts.specs.Sort.{read_sort}
use Rattle.values.specs.Equal.{decided, equal}
use Rattle.values.specs.Normal.{normal}
use Rattle.values.specs.Value.{Value, Values, v_bool, v_string, v_ext, v_bits, v_none, v_some, v_set, v_entity, v_record, v_nil, v_cons, union as both}
use Rattle.means.specs.Literal.{Lit, lit, unary_of, binary_of, option_in, set_in, unsigned, numbered, lit_of, expect_in, indexed_lit, entity_lit, same_count, fields_of, made_row, app_lit, member_lit, at_row, word_lit, read_with}
use Rattle.values.proofs.Holds.{held-set}
use Rattle.tables.proofs.Places.{some_one}
use Rattle.values.proofs.Operators.{IsBool, negated-bool, either-bool, bvnego-bool, leaving-bool, chosen-one}
use Rattle.well_sorted.proofs.Results.{refuses, ok_same, went, passed, was-found}
use Rattle.well_sorted.proofs.Views.{ext_name, call1, call2, call3, unary_name, binary_name, View, v_unary, v_binary, v_ite, v_uncovered, v_as_none, v_as_some, v_some_of, v_as_empty, v_singleton, v_union, v_extension, v_indexed, v_made, v_other, view}
use Rattle.well_sorted.proofs.Insides.{option_inside, set-inside}
use Rattle.well_sorted.proofs.Finds.{nameless, IsNamed, row_is, named-is}
use Rattle.refusals.specs.declared.Refusal.{Refusal}

-- the fields of a record: each of its row
pub data FieldReadings (o : Bool) (T : Tables) (a : ℕ) : List ℕ → Trees → Values → Type 0 where
  f_nil : FieldReadings o T a [] nil v_nil
  f_cons : {f : ℕ} {fs : List ℕ} {u : Tree} {us : Trees} {vs : Values} (l : Lit) → read_with T o a (Some f) u ≡ Ok l → l.row ≡ f → FieldReadings o T a fs us vs →
      FieldReadings o T a (f ∷ fs) (cons u us) (v_cons l.value vs)

-- a tree, the row and the value; one level below, what was read
pub data Reading (o : Bool) (T : Tables) (a : ℕ) (e : Option ℕ) : Tree → ℕ → Value → Type 0 where
  r-bits : {w n row : ℕ} → at T.sorts row ≡ Some (bit_vec w) → Reading o T a e (bits w n) row (v_bits w (n % 2 ^ w))
  r-string : {s : List ℕ} {row : ℕ} → at T.sorts row ≡ Some string → Reading o T a e (quoted s) row (v_string s)
  r_true : {row : ℕ} → at T.sorts row ≡ Some bool → Reading o T a e (symbol (bytes "true")) row (v_bool true)
  r_false : {row : ℕ} → at T.sorts row ≡ Some bool → Reading o T a e (symbol (bytes "false")) row (v_bool false)
  r-member : {s : List ℕ} (i : ℕ) (m : Member) → member_row T s ≡ Some i → at T.members i ≡ Some m →
      Reading o T a e (symbol s) m.entity (v_entity m.entity m.text)
  r-none : {t : Tree} {row : ℕ} (q : ℕ) → read_sort T a t ≡ Ok row → at T.sorts row ≡ Some (option_of q) →
      Reading o T a e (app (call2 (bytes "as") (symbol (bytes "none")) t)) row v_none
  r-as_some : {t v : Tree} {row : ℕ} (l : Lit) → read_sort T a t ≡ Ok row → at T.sorts row ≡ Some (option_of l.row) → read_with T o a (Some l.row) v ≡ Ok l →
      Reading o T a e (app (cons (app (call2 (bytes "as") (symbol (bytes "some")) t)) (cons v nil))) row (v_some l.value)
  r_some : {v : Tree} {row : ℕ} (x : Option ℕ) (l : Lit) → expect_in T option_in e ≡ Ok x → read_with T o a x v ≡ Ok l → at T.sorts row ≡ Some (option_of l.row) →
      Reading o T a e (app (call1 (bytes "some") v)) row (v_some l.value)
  r-empty : {t : Tree} {row : ℕ} (q : ℕ) → read_sort T a t ≡ Ok row → at T.sorts row ≡ Some (set_of q) →
      Reading o T a e (app (call2 (bytes "as") (symbol (bytes "set.empty")) t)) row (v_set v_nil)
  r-singleton : {v : Tree} {row : ℕ} (x : Option ℕ) (l : Lit) → expect_in T set_in e ≡ Ok x → read_with T o a x v ≡ Ok l → at T.sorts row ≡ Some (set_of l.row) →
      Reading o T a e (app (call1 (bytes "set.singleton") v)) row (v_set (v_cons l.value v_nil))
  r-union : {v w : Tree} {vs ws : Values} (l m : Lit) → read_with T o a e v ≡ Ok l → read_with T o a e w ≡ Ok m → l.row ≡ m.row → l.value ≡ v_set vs → m.value ≡ v_set ws →
      Reading o T a e (app (call2 (bytes "set.union") v w)) l.row (v_set (both vs ws))
  r-unary : {v : Tree} {row : ℕ} {b : Bool} (op : UnaryOp) (l : Lit) → o ≡ true → read_with T o a None v ≡ Ok l → unary_of op l ≡ Some (v_bool b) → at T.sorts row ≡ Some bool →
      Reading o T a e (app (call1 (unary_name op) v)) row (v_bool b)
  r-binary : {v w : Tree} {row : ℕ} {b : Bool} (op : BinaryOp) (l m : Lit) → o ≡ true → read_with T o a None v ≡ Ok l → read_with T o a None w ≡ Ok m → binary_of op l m ≡ Some (v_bool b) →
      at T.sorts row ≡ Some bool → Reading o T a e (app (call2 (binary_name op) v w)) row (v_bool b)
  r-ite : {c v w : Tree} {b : Bool} (k l m : Lit) → o ≡ true → read_with T o a None c ≡ Ok k → read_with T o a e v ≡ Ok l → read_with T o a e w ≡ Ok m → k.value ≡ v_bool b → l.row ≡ m.row →
      Reading o T a e (app (call3 (bytes "ite") c v w)) l.row (cond b l.value m.value)
  r-extension : {x : Ext} {n row : ℕ} → at T.sorts row ≡ Some (ext x) →
      Reading o T a e (app (call1 (ext_name x) (bits 64 n))) row (v_ext x (signed 64 (n % 2 ^ 64)))
  r-indexed : {ds : List ℕ} {w n row : ℕ} → numbered (parsed Radix.Decimal (unsigned ds)) ≡ Ok n → (w < 128 → n < 2 ^ w) → at T.sorts row ≡ Some (bit_vec w) →
      Reading o T a e (app (call2 (bytes "_") (symbol (98 ∷ 118 ∷ ds)) (numeral w))) row (v_bits w n)
  r-entity : {f s : List ℕ} {row : ℕ} → named_sort T f ≡ Some row → at T.sorts row ≡ Some (entity_of f) →
      Reading o T a e (app (call1 f (quoted s))) row (v_entity row s)
  r_record : {f : List ℕ} {us : Trees} {row : ℕ} {vs : Values} (fs : List ℕ) → named_sort T f ≡ Some row → at T.sorts row ≡ Some (record_of f fs) → FieldReadings o T a fs us vs →
      Reading o T a e (app (cons (symbol f) us)) row (v_record row vs)

-- what an operator gives is a bool
pub unary_bool : (op : UnaryOp) (l : Lit) (v : Value) → unary_of op l ≡ Some v → IsBool v
unary_bool UnaryOp.Not l v e = negated-bool l.value v e
unary_bool UnaryOp.Bvnego l v e = bvnego-bool l.value v e

pub binary_bool : (op : BinaryOp) (l m : Lit) (v : Value) → binary_of op l m ≡ Some v → IsBool v
binary_bool BinaryOp.Or l m v e = either-bool l.value m.value v e
binary_bool BinaryOp.Equal l m v e =
    by_test (eqb l.row m.row)
    (λ h. (decided (equal (normal l.value) (normal m.value)), sym (some_one (rw h at e))))
    (λ h. let k : ◌≡◌ {A = Option Value} None (Some v) = (rw h at e) in let z : ◌≡◌ {A = ℕ} 0 1 = cc in absurd (omega arith))
binary_bool BinaryOp.Bvsaddo l m v e = leaving-bool ◌+ℤ◌ l.value m.value v e
binary_bool BinaryOp.Bvsmulo l m v e = leaving-bool ◌*ℤ◌ l.value m.value v e

-- an operator that is not worked out refuses
by-worked : {A : Type 0} (o : Bool) (l : Lit) (m : Result Lit Refusal) → cond o m (Err NotCovered) ≡ Ok l → (o ≡ true → m ≡ Ok l → A) → A
by-worked true l m e f = f refl e
by-worked false l m e f = refuses e

narrow : (w n : ℕ) → (ltb w 128 && leb (2 ^ w) n) ≡ false → w < 128 → n < 2 ^ w
narrow w n h k = leb-false (2 ^ w) n (rw (lt-ltb w 128 k) at h)

module _ (T : Tables) (o : Bool) (a : ℕ) (e : Option ℕ) where
  -- what the arms reading
  abbrev Told : Tree → Lit → Type 0
  Told t l = Reading o T a e t l.row l.value

  sort-told : (t : Tree) (s : Sort) (v : Value) (l : Lit) → nameless s ≡ true → ((row : ℕ) → at T.sorts row ≡ Some s → Reading o T a e t row v) → lit_of T s v ≡ Ok l → Told t l
  sort-told t s v l h f m =
      let w = went _ _ l m in
      subst (Told t) (ok_same w.next) (f w.got (row_is T w.got s h w.first))

  member-told : (s : List ℕ) (o : Option ℕ) (l : Lit) → member_row T s ≡ o → member_lit T (at_row T T.members o) ≡ Ok l → Told (symbol s) l
  member-told s None l h m = refuses m
  member-told s (Some i) l h m = go (at T.members i) refl m
    where
      go : (o : Option Member) → at T.members i ≡ o → member_lit T o ≡ Ok l → Told (symbol s) l
      go None k n = refuses n
      go (Some x) k n = subst (Told (symbol s)) (ok_same n) (r-member i x h k)

  word-told : (s : List ℕ) (l : Lit) → word_lit T s ≡ Ok l → Told (symbol s) l
  word-told s l m =
      by_test (is s "true")
      (λ h. rw (same-equal s _ h) (sort-told (symbol (bytes "true")) bool (v_bool true) l refl (λ row k. r_true k) (rw h at m)))
      (λ h. by_test (is s "false")
      (λ k. rw (same-equal s _ k) (sort-told (symbol (bytes "false")) bool (v_bool false) l refl (λ row q. r_false q) (rw (h, k) at m)))
      (λ k. member-told s (member_row T s) l refl (rw (h, k) at m)))

  indexed-told : (ds : List ℕ) (w : ℕ) (l : Lit) → indexed_lit T ds w ≡ Ok l → Told (app (call2 (bytes "_") (symbol (98 ∷ 118 ∷ ds)) (numeral w))) l
  indexed-told ds w l m =
      let g = went _ _ l m in
      let q = (passed _ ZeroWidthBitVec _ l (passed _ IntegerOverflow _ l g.next).1).1 in
      by_test (ltb w 128 && leb (2 ^ w) g.got)
      (λ h. refuses (rw h at q))
      (λ h. sort-told _ (bit_vec w) (v_bits w g.got) l refl (λ row k. r-indexed g.first (narrow w g.got h) k) (rw h at q))

  entity-told : (f : List ℕ) (row : ℕ) (us : Trees) (l : Lit) → named_sort T f ≡ Some row → at T.sorts row ≡ Some (entity_of f) → entity_lit row us ≡ Ok l → Told (app (cons (symbol f) us)) l
  entity-told f row nil l h k m = refuses m
  entity-told f row (cons (bits w n) us) l h k m = refuses m
  entity-told f row (cons (numeral n) us) l h k m = refuses m
  entity-told f row (cons (quoted s) nil) l h k m = subst (Told (app (call1 f (quoted s)))) (ok_same m) (r-entity h k)
  entity-told f row (cons (quoted s) (cons u us)) l h k m = refuses m
  entity-told f row (cons (symbol s) us) l h k m = refuses m
  entity-told f row (cons (app ts) us) l h k m = refuses m

  fields_told : (fs : List ℕ) (us : Trees) (vs : Values) → same_count fs us ≡ true → fields_of (λ x u. read_with T o a x u) fs us ≡ Ok vs → FieldReadings o T a fs us vs
  fields_told [] nil vs c m = subst (λ (k : Values). FieldReadings o T a [] nil k) (ok_same m) f_nil
  fields_told [] (cons u us) vs c m = absurd (true≢false (sym c))
  fields_told (f ∷ fs) nil vs c m = absurd (true≢false (sym c))
  fields_told (f ∷ fs) (cons u us) vs c m =
      let w = went _ _ vs m in
      let q = passed _ UnmatchedFieldType _ vs w.next in
      let z = went _ _ vs q.1 in
      subst (λ (k : Values). FieldReadings o T a (f ∷ fs) (cons u us) k) (ok_same z.next)
      (f_cons w.got w.first (eqb-true _ _ q.0) (fields_told fs us z.got c z.first))

  abbrev Made : List ℕ → ℕ → Option Sort → Trees → Lit → Type 0
  Made f row s us l = made_row T (λ t. read_sort T a t) (λ x u. read_with T o a x u) row s us ≡ Ok l

  made_told : (f : List ℕ) (row : ℕ) (us : Trees) (l : Lit) (s : Sort) → named_sort T f ≡ Some row → at T.sorts row ≡ Some s → IsNamed f s → Made f row (Some s) us l →
      Told (app (cons (symbol f) us)) l
  made_told f row us l s h k (inl e) m = entity-told f row us l h (k ∙ ap Some e) (subst (λ (r : Sort). Made f row (Some r) us l) e m)
  made_told f row us l s h k (inr (fs, e)) m =
      let q = passed _ UnmatchedRecordType _ l (subst (λ (r : Sort). Made f row (Some r) us l) e m) in
      let w = went _ _ l q.1 in
      subst (Told (app (cons (symbol f) us))) (ok_same w.next) (r_record fs h (k ∙ ap Some e) (fields_told fs us w.got q.0 w.first))

  app-told : (us : Trees) (s : Shape) → View us s → (l : Lit) → app_lit T (λ t. read_sort T a t) (λ x u. read_with T o a x u) o e s ≡ Ok l → Told (app us) l
  app-told _ _ (v_unary {op = op} {v = v}) l m = by-worked o l _ m (λ h n.
      let w = went _ _ l n in
      let z = went _ _ l w.next in
      let y = unary_bool op w.got z.got (was-found UnmatchedType _ _ z.first) in
      sort-told _ bool z.got l refl
      (λ row k. subst (Reading o T a e _ row) (sym y.1) (r-unary op w.got h w.first (was-found UnmatchedType _ _ z.first ∙ ap Some y.1) k)) z.next)
  app-told _ _ (v_binary {op = op}) l m = by-worked o l _ m (λ h n.
      let w = went _ _ l n in
      let x = went _ _ l w.next in
      let z = went _ _ l x.next in
      let y = binary_bool op w.got x.got z.got (was-found UnmatchedType _ _ z.first) in
      sort-told _ bool z.got l refl
      (λ row k. subst (Reading o T a e _ row) (sym y.1) (r-binary op w.got x.got h w.first x.first (was-found UnmatchedType _ _ z.first ∙ ap Some y.1) k)) z.next)
  app-told _ _ v_ite l m = by-worked o l _ m (λ h n.
      let w = went _ _ l n in
      let x = went _ _ l w.next in
      let z = went _ _ l x.next in
      let p = passed _ UnmatchedType _ l z.next in
      let y = went _ _ l p.1 in
      let b = chosen-one w.got.value x.got.value z.got.value y.got (was-found UnmatchedType _ _ y.first) in
      subst (Told _) (ap (λ (v : Value). lit x.got.row v) b.2 ∙ ok_same y.next) (r-ite w.got x.got z.got h w.first x.first z.first b.1 (eqb-true _ _ p.0)))
  app-told _ _ v_uncovered l m = refuses m
  app-told _ _ v_as_none l m =
      let w = went _ _ l m in
      let z = went _ _ l w.next in
      let k = option_inside (at T.sorts w.got) z.got (was-found InvalidOptionType _ _ z.first) in
      subst (Told _) (ok_same z.next) (r-none z.got w.first k)
  app-told _ _ (v_as_some {t = t} {v = v}) l m =
      let w = went _ _ l m in
      let z = went _ _ l w.next in
      let y = went _ _ l z.next in
      let q = passed _ UnmatchedType _ l y.next in
      let x = went _ _ y.got y.first in
      let g : lit x.got (v_some z.got.value) ≡ l = ok_same x.next ∙ ok_same q.1 in
      let r : x.got ≡ w.got = ap (λ (k : Lit). k.row) (ok_same x.next) ∙ eqb-true _ _ q.0 in
      let k = row_is T x.got (option_of z.got.row) refl x.first in
      let k' = subst (λ (j : ℕ). at T.sorts j ≡ Some (option_of z.got.row)) r k in
      subst (Told _) g (r-as_some z.got (w.first ∙ ap Ok (sym r)) k (subst (λ (s : Option Sort). read_with T o a (option_in s) v ≡ Ok z.got) k' z.first))
  app-told _ _ v_some_of l m =
      let w = went _ _ l m in
      let z = went _ _ l w.next in
      sort-told _ (option_of z.got.row) (v_some z.got.value) l refl (λ row k. r_some w.got z.got w.first z.first k) z.next
  app-told _ _ v_as_empty l m =
      let w = went _ _ l m in
      let z = went _ _ l w.next in
      let k = set-inside (at T.sorts w.got) z.got (was-found InvalidSetType _ _ z.first) in
      subst (Told _) (ok_same z.next) (r-empty z.got w.first k)
  app-told _ _ v_singleton l m =
      let w = went _ _ l m in
      let z = went _ _ l w.next in
      sort-told _ (set_of z.got.row) (v_set (v_cons z.got.value v_nil)) l refl (λ row k. r-singleton w.got z.got w.first z.first k) z.next
  app-told _ _ v_union l m =
      let w = went _ _ l m in
      let z = went _ _ l w.next in
      let p = passed _ UnmatchedType _ l z.next in
      let y = went _ _ l p.1 in
      let x = went _ _ l y.next in
      let left = held-set w.got.value y.got (was-found SetUnionNonLiterals _ _ y.first) in
      let right = held-set z.got.value x.got (was-found SetUnionNonLiterals _ _ x.first) in
      subst (Told _) (ok_same x.next) (r-union w.got z.got w.first z.first (eqb-true _ _ p.0) left right)
  app-told _ _ (v_extension {x = x} {n = n}) l m = sort-told _ (ext x) (v_ext x (signed 64 (n % 2 ^ 64))) l refl (λ row k. r-extension k) m
  app-told _ _ (v_indexed {digits = ds} {w = w}) l m = indexed-told ds w l m
  app-told _ _ (v_made {f = f} {us = us}) l m =
      let w = went _ _ l m in
      let h = was-found UnknownLiteral (named_sort T f) w.got w.first in
      let k = named-is T w.got f h in
      made_told f w.got us l k.0 h k.1 k.2 (subst (λ (s : Option Sort). Made f w.got s us l) k.1 w.next)
  app-told _ _ v_other l m = refuses m

  pub reading : (t : Tree) (l : Lit) → read_with T o (suc a) e t ≡ Ok l → Reading o T a e t l.row l.value
  unfolding read_with
  reading (bits w n) l m = sort-told _ (bit_vec w) (v_bits w (n % 2 ^ w)) l refl (λ row k. r-bits k) m
  reading (numeral n) l m = refuses m
  reading (quoted s) l m = sort-told _ string (v_string s) l refl (λ row k. r-string k) m
  reading (symbol s) l m = word-told s l m
  reading (app us) l m = app-told us (shape us) (view us) l m
