-- What an application is, by its shape.
-- Assumes nothing.
use Rattle.std.proofs.Common.{Option}
use mathlib.Core.Path.{◌≡◌, refl, sym, ap, ◌∙◌, subst}
use mathlib.Core.Bool.{Bool, false, true≢false}
use mathlib.Core.List.{List, [], ◌∷◌}
use Prim.Native.Nat.{ℕ, suc, ◌+◌, ◌*◌, ◌%◌, ◌^◌, ◌≤◌, ◌<◌}
use native.Mathlib.Nat.{mod-eq_of_lt}
use native.Mathlib.Omega.{arith}
use types.Run.{OneOf, miss}
use denote.Enum.Declared.{tag_of}
use Rattle.words.specs.declared.digits.Radix.{Radix}
use Rattle.words.specs.Extension.{signed}
use Rattle.words.specs.Run.{parsed}
use Rattle.arena.specs.Node.{after_at}
use Rattle.arena.specs.Text.{text_at}
use Rattle.arena.specs.Tree.{Tree, Trees, app, nil, cons}
use Rattle.arena.proofs.Layouts.{stands-longer}
use Rattle.tables.specs.Layout.{Lent, tables_of}
use Rattle.shapes.specs.declared.shape.BinaryOp.{BinaryOp}
use Rattle.shapes.specs.declared.shape.Found.{Found}
use Rattle.shapes.specs.declared.shape.Kind.{Kind}
use Rattle.shapes.specs.declared.shape.UnaryOp.{UnaryOp}
use Rattle.shapes.specs.Shape.{Shape, shape}
use Rattle.shapes.specs.Shows.{Standing, Shows, Placed, ShapeAt, ext_of}
use Rattle.shapes.specs.contracts.shape.Found as FoundType
use Rattle.sorts.specs.Sort.{levels}
use Rattle.values.specs.Value.{Value, v_bool, v_ext, v_bits}
use Rattle.means.specs.Literal.{Lit, unsigned, numbered}
use Rattle.well_sorted.proofs.Results.{refuses}
use Rattle.marks.specs.Mark.{marked}
use Rattle.settled.specs.Settled.{decision, Settled}
use Rattle.settled.specs.Taken.{ite_shape}
use Rattle.forms.specs.declared.form.Form.{Form}
use Rattle.forms.specs.Form.{Says, AppForm, MadeForm}
use Rattle.forms.specs.Leaf.{IndexedForm}
use Rattle.forms.proofs.Arms.{Inner, Decided, Accepts, app-accepts, is_none, is_as_some, is_some, is-empty, is-singleton, is_union, is-extension, is-indexed, is-unary, is-binary}
use Rattle.forms.proofs.Parts.{Heads, heads, Behind, behind-head, stood-behind}

module _ (sorts names ws ts ms : List ℕ) (i : ℕ) (found : Found) (at : ShapeAt ws ts i found) where
  abbrev At : Lent → ℕ → Option ℕ → Lit → Shape → Type 0
  At l below e k s = Accepts (tables_of l) below e k s

  abbrev Arm : Form → Found → Type 0
  Arm r f = (l : Lent) → l.sorts ≡ sorts → l.names ≡ names → (us : Trees) (s : Standing (app us) ws ts i) (below : ℕ) (e : Option ℕ) (k : Lit) → suc below ≤ levels →
      Placed ws (after_at ws (i + 1)) f → Shows ws ts f (shape us) → At l below e k (shape us) → ite_shape (shape us) ≡ false → Settled (tables_of l) ms ws ts i s.next →
      Says (tables_of l) ms ws ts names below i s.next k.value r

  by_arm : (r : Form) (f : Found) → found ≡ f → Arm r f → AppForm sorts names ws ts ms i r
  by_arm r f e h l p n us s below x k most m plain st =
      let d = subst (λ (y : Found). ShapeAt ws ts i y) e at in
      h l p n us s below x k most d.0 (d.1 us s) (app-accepts (tables_of l) below x k us m) plain st

  -- what is no literal, and an `ite`
  pub app-other : OneOf (0 ∷ 10 ∷ 13 ∷ []) (tag_of FoundType.the_type found) → AppForm sorts names ws ts ms i Form.NoForm
  app-other h = by_arm Form.NoForm found refl (λ l p n us s below x k most d w q plain st. go l below x k found h (shape us) w q plain)
    where
      go : (l : Lent) (below : ℕ) (x : Option ℕ) (k : Lit) (f : Found) → OneOf (0 ∷ 10 ∷ 13 ∷ []) (tag_of FoundType.the_type f) → (s : Shape) → Shows ws ts f s → At l below x k s → ite_shape s ≡ false → ⊥
      go l below x k Found.Uncovered h s w q plain = refuses (subst (At l below x k) w q)
      go l below x k (Found.AsNone sort) h s w q plain = miss (0 ∷ 10 ∷ 13 ∷ []) 1 tt h
      go l below x k (Found.AsSome sort value) h s w q plain = miss (0 ∷ 10 ∷ 13 ∷ []) 2 tt h
      go l below x k (Found.SomeOf value) h s w q plain = miss (0 ∷ 10 ∷ 13 ∷ []) 3 tt h
      go l below x k (Found.AsEmpty sort) h s w q plain = miss (0 ∷ 10 ∷ 13 ∷ []) 4 tt h
      go l below x k (Found.Singleton value) h s w q plain = miss (0 ∷ 10 ∷ 13 ∷ []) 5 tt h
      go l below x k (Found.Union left right) h s w q plain = miss (0 ∷ 10 ∷ 13 ∷ []) 6 tt h
      go l below x k (Found.Extension kind low) h s w q plain = miss (0 ∷ 10 ∷ 13 ∷ []) 7 tt h
      go l below x k (Found.Indexed offset size low high) h s w q plain = miss (0 ∷ 10 ∷ 13 ∷ []) 8 tt h
      go l below x k (Found.Made offset size first many) h s w q plain = miss (0 ∷ 10 ∷ 13 ∷ []) 9 tt h
      go l below x k Found.Other h s w q plain = refuses (subst (At l below x k) w q)
      go l below x k (Found.Unary op value) h s w q plain = miss (0 ∷ 10 ∷ 13 ∷ []) 11 tt h
      go l below x k (Found.Binary op left right) h s w q plain = miss (0 ∷ 10 ∷ 13 ∷ []) 12 tt h
      go l below x k (Found.Ite condition left right) h s w q plain = true≢false (sym (ap ite_shape w.3) ∙ plain)

  pub app-none : (sort : ℕ) → found ≡ Found.AsNone sort → AppForm sorts names ws ts ms i Form.Nothing
  app-none sort e = by_arm Form.Nothing (Found.AsNone sort) e (λ l p n us s below x k most d w q plain st.
      is_none (tables_of l) below x k w.0 (subst (At l below x k) w.1 q))

  inside : (l : Lent) (us : Trees) (s : Standing (app us) ws ts i) (below value : ℕ) (v : Tree) (k : Lit) → Behind (cons v nil) ws ts i value s.next → Inner (tables_of l) below v k.value →
      Settled (tables_of l) ms ws ts i s.next → Says (tables_of l) ms ws ts names below i s.next k.value (Form.Inside value)
  inside l us s below value v k b n st =
      record { expected = n.expected; inner = n.inner; stood = stood-behind (tables_of l) ms ws ts below i s.next value v n.expected n.inner b n.was st; is = n.is }

  pub app_as_some : (sort value : ℕ) → found ≡ Found.AsSome sort value → AppForm sorts names ws ts ms i (Form.Inside value)
  app_as_some sort value e = by_arm (Form.Inside value) (Found.AsSome sort value) e (λ l p n us s below x k most d w q plain st.
      inside l us s below value w.1 k (behind-head ws ts us (cons w.1 nil) (subst (Heads us) w.2 (heads us)) i s value d)
      (is_as_some (tables_of l) below x k w.0 w.1 (subst (At l below x k) w.2 q)) st)

  pub app-some : (value : ℕ) → found ≡ Found.SomeOf value → AppForm sorts names ws ts ms i (Form.Inside value)
  app-some value e = by_arm (Form.Inside value) (Found.SomeOf value) e (λ l p n us s below x k most d w q plain st.
      inside l us s below value w.0 k (behind-head ws ts us (cons w.0 nil) (subst (Heads us) w.1 (heads us)) i s value d)
      (is_some (tables_of l) below x k w.0 (subst (At l below x k) w.1 q)) st)

  pub app-empty : (sort : ℕ) → found ≡ Found.AsEmpty sort → AppForm sorts names ws ts ms i Form.Set
  app-empty sort e = by_arm Form.Set (Found.AsEmpty sort) e (λ l p n us s below x k most d w q plain st.
      is-empty (tables_of l) below x k w.0 (subst (At l below x k) w.1 q))

  pub app-singleton : (value : ℕ) → found ≡ Found.Singleton value → AppForm sorts names ws ts ms i Form.Set
  app-singleton value e = by_arm Form.Set (Found.Singleton value) e (λ l p n us s below x k most d w q plain st.
      is-singleton (tables_of l) below x k w.0 (subst (At l below x k) w.1 q))

  pub app-union : (left right : ℕ) → found ≡ Found.Union left right → AppForm sorts names ws ts ms i Form.Set
  app-union left right e = by_arm Form.Set (Found.Union left right) e (λ l p n us s below x k most d w q plain st.
      is_union (tables_of l) below x k w.0 w.1 (subst (At l below x k) w.2 q))

  pub app-extension : (kind : Kind) (low : ℕ) → found ≡ Found.Extension kind low → AppForm sorts names ws ts ms i (Form.Number kind low)
  app-extension kind low e = by_arm (Form.Number kind low) (Found.Extension kind low) e (λ l p n us s below x k most d w q plain st.
      is-extension (tables_of l) below x k (ext_of kind) w.0 (subst (At l below x k) w.1 q) ∙ ap (λ (n : ℕ). v_ext (ext_of kind) (signed 64 n)) (sym w.2))

  pub app-indexed : (offset size low high : ℕ) → found ≡ Found.Indexed offset size low high → (r : Form) → IndexedForm (text_at ts offset size) low r → AppForm sorts names ws ts ms i r
  app-indexed offset size low high e r f = by_arm r (Found.Indexed offset size low high) e (λ l p n us s below x k most d w q plain st.
      let m = is-indexed (tables_of l) below x k w.0 (low + high * 2 ^ 64) (subst (At l below x k) w.1 q) in
      let z : low + high * 2 ^ 64 ≡ low = narrow low high m.small in
      let y = f m.number (ap (λ (y : List ℕ). numbered (parsed Radix.Decimal (unsigned y))) w.2.bytes ∙ m.was) ts names (tables_of l) ms ws below i s.next in
      let v : v_bits low (m.number % 2 ^ low) ≡ k.value =
      ap (λ (j : ℕ). v_bits low j) (mod-eq_of_lt (subst (λ (j : ℕ). m.number < 2 ^ j) z m.fits)) ∙ ap (λ (j : ℕ). v_bits j m.number) (sym z) ∙ sym m.is in
      subst (λ (j : Value). Says (tables_of l) ms ws ts names below i s.next j r) v y)
    where
      narrow : (low high : ℕ) → low + high * 2 ^ 64 < 2 ^ 32 → low + high * 2 ^ 64 ≡ low
      narrow low high h = omega arith

  pub app-made : (offset size first many : ℕ) → found ≡ Found.Made offset size first many → (r : Form) → MadeForm sorts names ws ts offset size first many r → AppForm sorts names ws ts ms i r
  app-made offset size first many e r f = by_arm r (Found.Made offset size first many) e (λ l p n us s below x k most d w q plain st.
      let b = behind-head ws ts us w.1 (subst (Heads us) w.2 (heads us)) i s first d in
      let g = b.behind in
      f l p n w.0 w.1 w.3 (record { next = s.next; from = b.from; rest = b.rest; there = b.there; many-are = w.4.many-are }) ms below i x k
      (subst (At l below x k) w.2 q) (omega arith) st)

  -- an operator: what is remembered is what it gives
  remembered : (l : Lent) (us : Trees) (s : Standing (app us) ws ts i) (k : Lit) (o : Shape) → shape us ≡ o → Decided (tables_of l) o k.value → Settled (tables_of l) ms ws ts i s.next →
      (b : Bool) → b ≡ marked ms i → k.value ≡ v_bool b
  remembered l us s k o e z st b h =
      let n = stands-longer ws ts (app us) i s.next s.from s.rest s.there in
      z.is ∙ ap v_bool (sym (h ∙ st i (omega arith) n us s z.truth (ap (decision (tables_of l)) e ∙ z.decides)))

  module _ (b : Bool) (h : b ≡ marked ms i) where
    pub app-unary : (op : UnaryOp) (value : ℕ) → found ≡ Found.Unary op value → AppForm sorts names ws ts ms i (Form.Truth b)
    app-unary op value e = by_arm (Form.Truth b) (Found.Unary op value) e (λ l p n us s below x k most d w q plain st.
        remembered l us s k _ w.1 (is-unary (tables_of l) below x k (omega arith) op w.0 (subst (At l below x k) w.1 q)) st b h)

    pub app-binary : (op : BinaryOp) (left right : ℕ) → found ≡ Found.Binary op left right → AppForm sorts names ws ts ms i (Form.Truth b)
    app-binary op left right e = by_arm (Form.Truth b) (Found.Binary op left right) e (λ l p n us s below x k most d w q plain st.
        remembered l us s k _ w.2 (is-binary (tables_of l) below x k (omega arith) op w.0 w.1 (subst (At l below x k) w.2 q)) st b h)
