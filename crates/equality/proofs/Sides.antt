-- Two values side by side by their forms: one law for each way out.
-- Assumes nothing.
use mathlib.Core.Path.{◌≡◌, refl, sym, ap, ap₂, ◌∙◌, subst}
use mathlib.Core.Bool.{Bool, true, false, not, cond, ◌&&◌}
use mathlib.Core.List.{List}
use Prim.Native.Nat.{ℕ, suc, ◌+◌, ◌*◌, ◌%◌, ◌^◌, ◌<◌}
use native.Mathlib.Omega.{arith}
use lib.Dec.{T as So, eqb}
use mir.Val.{has_key}
use types.Run.{OneOf, miss}
use denote.Enum.Declared.{tag_of}
use borrow.Author.Tests.{ne_eqb}
use Rattle.ground.proofs.Tests.{and-false}
use Rattle.words.specs.Extension.{signed}
use Rattle.arena.specs.Tree.{Trees, nil, cons, count}
use Rattle.arena.specs.Text.{text_at, same_text}
use Rattle.tables.specs.Sort.{Tables}
use Rattle.shapes.specs.declared.shape.Kind.{Kind}
use Rattle.shapes.specs.Shows.{ext_of}
use Rattle.values.specs.Same.{same}
use Rattle.values.specs.Value.{Value, Values, v_bool, v_string, v_ext, v_bits, v_none, v_entity, v_record, v_nil, v_cons}
use Rattle.values.proofs.Compares.{form_of, unlike, bools_same, strings-same, bits-one, nones_same, same_fields, records-same}
use Rattle.forms.specs.declared.form.Form.{Form}
use Rattle.forms.specs.Form.{Listed, l_nil, l_cons, Says}
use Rattle.forms.specs.contracts.form.Form as FormType
use Rattle.equality.specs.declared.side.Compared.{Compared}
use Rattle.equality.specs.Compared.{Compares, Anywhere, TextCompares}
use Rattle.equality.specs.Leaf.{NumberIs, EntityIs}

-- which form a value of a form has
abbrev form_is : Form → ℕ
form_is (Form.Truth b) = 0
form_is (Form.Text o l) = 1
form_is (Form.Number k l) = 2
form_is (Form.Bits w l h) = 3
form_is Form.Nothing = 4
form_is (Form.Inside n) = 5
form_is Form.Set = 6
form_is (Form.Entity r o l) = 7
form_is (Form.Member r o l) = 7
form_is (Form.Record r f m) = 8
form_is Form.NoForm = 9

module _ (T : Tables) (ms ws ts names : List ℕ) (below i last : ℕ) where
  form-is : (f : Form) (w : Value) → Says T ms ws ts names below i last w f → form_of w ≡ form_is f
  form-is (Form.Truth b) w k = ap form_of k
  form-is (Form.Text o l) w k = ap form_of k.2
  form-is (Form.Number o l) w k = ap form_of k
  form-is (Form.Bits o l m) w k = ap form_of k
  form-is Form.Nothing w k = ap form_of k
  form-is (Form.Inside n) w k = ap form_of k.is
  form-is Form.Set w k = ap form_of k.1
  form-is (Form.Entity o l m) w k = ap form_of k.2
  form-is (Form.Member o l m) w k = ap form_of k.2
  form-is (Form.Record o l m) w k = ap form_of k.is
  form-is Form.NoForm w k = absurd k

-- forms but entities have tags of their own
tag_is : (n : ℕ) → n < 7 → (f : Form) → form_is f ≡ n → tag_of FormType.the_type f ≡ n
tag_is n h (Form.Truth b) e = e
tag_is n h (Form.Text o l) e = e
tag_is n h (Form.Number o l) e = e
tag_is n h (Form.Bits o l m) e = e
tag_is n h Form.Nothing e = e
tag_is n h (Form.Inside m) e = e
tag_is n h Form.Set e = e
tag_is n h (Form.Entity o l m) e = absurd (omega arith)
tag_is n h (Form.Member o l m) e = absurd (omega arith)
tag_is n h (Form.Record o l m) e = absurd (omega arith)
tag_is n h Form.NoForm e = absurd (omega arith)

tag_record : (f : Form) → form_is f ≡ 8 → tag_of FormType.the_type f ≡ 9
tag_record (Form.Truth b) e = absurd (omega arith)
tag_record (Form.Text o l) e = absurd (omega arith)
tag_record (Form.Number o l) e = absurd (omega arith)
tag_record (Form.Bits o l m) e = absurd (omega arith)
tag_record Form.Nothing e = absurd (omega arith)
tag_record (Form.Inside m) e = absurd (omega arith)
tag_record Form.Set e = absurd (omega arith)
tag_record (Form.Entity o l m) e = absurd (omega arith)
tag_record (Form.Member o l m) e = absurd (omega arith)
tag_record (Form.Record o l m) e = refl
tag_record Form.NoForm e = absurd (omega arith)

forms_differ : (left right : Form) → (form_is left ≡ form_is right → ⊥) → Anywhere left right (Compared.Told false)
forms_differ left right n names ts T ms ws below i last v under j end w h k =
    unlike v w (λ e. n (sym (form-is T ms ws ts names below i last left v h) ∙ e ∙ form-is T ms ws ts names under j end right w k))

-- a form of none of the tags that are left
pub tags_differ : (left right : Form) (n : ℕ) → n < 7 → form_is left ≡ n → (ks : List ℕ) → OneOf ks (tag_of FormType.the_type right) → So (not (has_key ks n)) → Anywhere left right (Compared.Told false)
tags_differ left right n h e ks k f = forms_differ left right (λ q. miss ks n f (subst (OneOf ks) (tag_is n h right (sym q ∙ e)) k))

pub record_differs : (left right : Form) → form_is left ≡ 8 → (ks : List ℕ) → OneOf ks (tag_of FormType.the_type right) → So (not (has_key ks 9)) → Anywhere left right (Compared.Told false)
record_differs left right e ks k f = forms_differ left right (λ q. miss ks 9 f (subst (OneOf ks) (tag_record right (sym q ∙ e)) k))

-- both known
told : (v w x y : Value) (r : Bool) → v ≡ x → w ≡ y → r ≡ same x y → r ≡ same v w
told v w x y r p q e = e ∙ ap₂ same (sym p) (sym q)

module _ (right : Form) where
  pub truths : (a b r : Bool) → right ≡ Form.Truth b → r ≡ cond a b (not b) → Anywhere (Form.Truth a) right (Compared.Told r)
  truths a b r d e names ts T ms ws below i last v under j end w h k =
      told v w (v_bool a) (v_bool b) r h (subst (Says T ms ws ts names under j end w) d k) (e ∙ bools_same a b)

  pub texts : (ts : List ℕ) (offset size other long : ℕ) (r : Bool) → right ≡ Form.Text other long → r ≡ same_text (text_at ts offset size) (text_at ts other long) → TextCompares ts offset size right (Compared.Told r)
  texts ts offset size other long r d e names T ms ws below i last v under j end w h k =
      let q = subst (Says T ms ws ts names under j end w) d k in
      told v w (v_string h.0) (v_string q.0) r h.2 q.2 (e ∙ ap₂ same_text h.1.bytes q.1.bytes ∙ strings-same h.0 q.0)

  pub numbers : (kind : Kind) (low : ℕ) (other : Kind) (word : ℕ) (r : Bool) → right ≡ Form.Number other word → NumberIs kind low other word r → Anywhere (Form.Number kind low) right (Compared.Told r)
  numbers kind low other word r d e names ts T ms ws below i last v under j end w h k =
      told v w (v_ext (ext_of kind) (signed 64 low)) (v_ext (ext_of other) (signed 64 word)) r h (subst (Says T ms ws ts names under j end w) d k) e

  pub vectors : (width low high other least most : ℕ) (r : Bool) → right ≡ Form.Bits other least most → r ≡ (eqb width other && eqb ((low + high * 2 ^ 64) % 2 ^ width) ((least + most * 2 ^ 64) % 2 ^ other)) → Anywhere (Form.Bits width low high) right (Compared.Told r)
  vectors width low high other least most r d e names ts T ms ws below i last v under j end w h k =
      told v w (v_bits width ((low + high * 2 ^ 64) % 2 ^ width)) (v_bits other ((least + most * 2 ^ 64) % 2 ^ other)) r h (subst (Says T ms ws ts names under j end w) d k)
      (e ∙ bits-one width other ((low + high * 2 ^ 64) % 2 ^ width) ((least + most * 2 ^ 64) % 2 ^ other))

  pub nothings : right ≡ Form.Nothing → Anywhere Form.Nothing right (Compared.Told true)
  nothings d names ts T ms ws below i last v under j end w h k = told v w v_none v_none true h (subst (Says T ms ws ts names under j end w) d k) nones_same

  pub insides : (n m : ℕ) → right ≡ Form.Inside m → Anywhere (Form.Inside n) right (Compared.Insides n m)
  insides n m d names ts T ms ws below i last v under j end w h k = (h, subst (Says T ms ws ts names under j end w) d k)

  pub sets : right ≡ Form.Set → Anywhere Form.Set right Compared.Sets
  sets d names ts T ms ws below i last v under j end w h k = (h, subst (Says T ms ws ts names under j end w) d k)

-- so many fields beside another number of them
counts_differ : (T : Tables) (a b : ℕ) (us xs : Trees) (vs ws : Values) → Listed T a us vs → Listed T b xs ws → (count us ≡ count xs → ⊥) → same_fields vs ws ≡ false
counts_differ T a b nil nil v_nil v_nil l_nil l_nil n = absurd (n refl)
counts_differ T a b nil (cons x xs) v_nil (v_cons w ws) l_nil (l_cons f m q k) n = refl
counts_differ T a b (cons u us) nil (v_cons v vs) v_nil (l_cons e l p h) l_nil n = refl
counts_differ T a b (cons u us) (cons x xs) (v_cons v vs) (v_cons w ws) (l_cons e l p h) (l_cons f m q k) n =
    let z : same_fields vs ws ≡ false = counts_differ T a b us xs vs ws h k (λ y. n (ap suc y)) in ap (λ (b : Bool). same v w && b) z ∙ and-false (same v w)
counts_differ T a b nil nil v_nil (v_cons w ws) _ x13 n = elim x13 [ ]
counts_differ T a b nil nil (v_cons v vs) ws x10 _ n = elim x10 [ ]
counts_differ T a b nil (cons x xs) v_nil v_nil _ x13 n = elim x13 [ ]
counts_differ T a b nil (cons x xs) (v_cons v vs) ws x11 _ n = elim x11 [ ]
counts_differ T a b (cons u us) nil v_nil ws x8 _ n = elim x8 [ ]
counts_differ T a b (cons u us) nil (v_cons v vs) (v_cons w ws) _ x12 n = elim x12 [ ]
counts_differ T a b (cons u us) (cons x xs) v_nil ws x10 _ n = elim x10 [ ]
counts_differ T a b (cons u us) (cons x xs) (v_cons v vs) v_nil _ x14 n = elim x14 [ ]

module _ (right : Form) (row first many other second long : ℕ) (d : right ≡ Form.Record other second long) where
  pub rows_differ : (row ≡ other → ⊥) → Anywhere (Form.Record row first many) right (Compared.Told false)
  rows_differ n names ts T ms ws below i last v under j end w h k =
      let q = subst (Says T ms ws ts names under j end w) d k in
      told v w (v_record row h.fields) (v_record other q.fields) false h.is q.is
      (ap (λ (b : Bool). b && same_fields h.fields q.fields) (sym (ne_eqb row other n)) ∙ records-same row other h.fields q.fields)

  pub fields_differ : (many ≡ long → ⊥) → Anywhere (Form.Record row first many) right (Compared.Told false)
  fields_differ n names ts T ms ws below i last v under j end w h k =
      let q = subst (Says T ms ws ts names under j end w) d k in
      told v w (v_record row h.fields) (v_record other q.fields) false h.is q.is
      (sym (ap (λ (b : Bool). eqb row other && b) (counts_differ T below under h.trees q.trees h.fields q.fields h.reads q.reads (λ e. n (h.there.many-are ∙ e ∙ sym q.there.many-are))) ∙ and-false (eqb row other))
      ∙ records-same row other h.fields q.fields)

  pub fields-left : row ≡ other → many ≡ long → Anywhere (Form.Record row first many) right (Compared.Fields first second many)
  fields-left e c names ts T ms ws below i last v under j end w h k =
      (row, h, subst (λ (r : ℕ). Says T ms ws ts names under j end w (Form.Record r second many)) (sym e) (subst (λ (m : ℕ). Says T ms ws ts names under j end w (Form.Record other second m)) (sym c) (subst (Says T ms ws ts names under j end w) d k)))

-- by the left form
module _ (names ts : List ℕ) (left right : Form) where
  pub compared : (f : Form) (r : Compared) → left ≡ f → Compares names ts f right r → Compares names ts left right r
  compared f r d h T ms ws below i last v under j end w p q = h T ms ws below i last v under j end w (subst (Says T ms ws ts names below i last v) d p) q

  pub entity-left : (row offset size : ℕ) (r : Bool) → left ≡ Form.Entity row offset size → EntityIs names ts row (text_at ts offset size) right r → Compares names ts left right (Compared.Told r)
  entity-left row offset size r d h T ms ws below i last v under j end w p q =
      let k = subst (Says T ms ws ts names below i last v) d p in
      h T ms ws under j end w q ∙ ap (λ (x : Value). same x w) (ap (v_entity row) k.1.bytes ∙ sym k.2)

  pub member-left : (row offset size : ℕ) (r : Bool) → left ≡ Form.Member row offset size → EntityIs names ts row (text_at names offset size) right r → Compares names ts left right (Compared.Told r)
  member-left row offset size r d h T ms ws below i last v under j end w p q =
      let k = subst (Says T ms ws ts names below i last v) d p in
      h T ms ws under j end w q ∙ ap (λ (x : Value). same x w) (ap (v_entity row) k.1.bytes ∙ sym k.2)

  pub no-form-left : (r : Compared) → left ≡ Form.NoForm → Compares names ts left right r
  no-form-left r d T ms ws below i last v under j end w p q = absurd (subst (Says T ms ws ts names below i last v) d p)
