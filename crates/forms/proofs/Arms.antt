-- An accepted application: the value that it is, by its shape, and what was read below it.
-- Assumes nothing.
use Rattle.std.proofs.Common.{None, Option, Some, Ok, Result}
use mathlib.Core.Path.{◌≡◌, refl, sym, ap, ◌∙◌, subst}
use mathlib.Core.Bool.{Bool, true, false, ◌&&◌, true≢false}
use mathlib.Core.List.{List, [], ◌∷◌}
use Prim.Native.Nat.{ℕ, suc, ◌%◌, ◌^◌, ◌≤◌, ◌<◌}
use native.Mathlib.Nat.{lt_of_lt_of_le}
use lib.Dec.{leb, ltb}
use lib.Pow.{pow_mono}
use borrow.Author.Tests.{leb-false, lt-ltb, ltb-true}
use Rattle.ground.specs.Options.{over}
use Rattle.ground.proofs.Tests.{by_test, by_order}
use Rattle.refusals.specs.declared.Refusal.TheVariants.{IntegerOverflow, ZeroWidthBitVec, UnmatchedType, UnmatchedFieldType}
use Rattle.words.specs.declared.digits.Radix.{Radix}
use Rattle.words.specs.Extension.{signed}
use Rattle.words.specs.Run.{parsed}
use Rattle.arena.specs.Tree.{Tree, Trees, bit_vec as bits, numeral, string as quoted, symbol, app, nil, cons}
use Rattle.tables.specs.Sort.{Ext, Tables}
use Rattle.shapes.specs.declared.shape.BinaryOp.{BinaryOp}
use Rattle.shapes.specs.declared.shape.UnaryOp.{UnaryOp}
use Rattle.shapes.specs.Shape.{Shape, unary, binary, as_none, as_some, some_of, as_empty, singleton, union, extension, indexed, shape}
use Rattle.sorts.specs.Sort.{read_sort, levels}
use Rattle.values.specs.Holds.{truth_of}
use Rattle.values.specs.Value.{Value, Values, v_bool, v_ext, v_bits, v_none, v_some, v_set, v_entity, v_nil, v_cons, union as both}
use Rattle.means.specs.Literal.{Lit, unsigned, numbered, unary_of, binary_of, entity_lit, fields_of, same_count, app_lit, read_with}
use Rattle.well_sorted.proofs.Results.{refuses, ok_same, went, passed, was-found}
use Rattle.settled.specs.Settled.{kept, decision}
use Rattle.settled.proofs.Takes.{at-levels}
use Rattle.well_sorted.proofs.Fits.{number_fits}
use Rattle.well_sorted.proofs.Readings.{unary_bool, binary_bool}
use Rattle.forms.specs.Form.{Listed, l_nil, l_cons}
use Rattle.refusals.specs.declared.Refusal.{Refusal}

width_fits : (w n : ℕ) → (ltb w 128 && leb (2 ^ w) n) ≡ false → n < 2 ^ 128 → n < 2 ^ w
width_fits w n h f =
    by_order w 128
    (λ k. leb-false (2 ^ w) n (rw (lt-ltb w 128 k) at h))
    (λ k. lt_of_lt_of_le f (pow_mono {i = 128} {j = w} k))

-- the one value inside an option
pub record Inner (T : Tables) (a : ℕ) (v : Tree) (whole : Value) : Type 0 where
  pub expected : Option ℕ
  pub inner : Lit
  pub was : read_with T true a expected v ≡ Ok inner
  pub is : whole ≡ v_some inner.value

pub record Numbered (ds : List ℕ) (w : ℕ) (whole : Value) : Type 0 where
  pub number : ℕ
  pub was : numbered (parsed Radix.Decimal (unsigned ds)) ≡ Ok number
  pub small : w < 2 ^ 32
  pub fits : number < 2 ^ w
  pub is : whole ≡ v_bits w number

-- what an operator gives, as it is remembered
pub record Decided (T : Tables) (s : Shape) (whole : Value) : Type 0 where
  pub truth : Bool
  pub decides : decision T s ≡ Some truth
  pub is : whole ≡ v_bool truth

module _ (T : Tables) (a : ℕ) (e : Option ℕ) (k : Lit) where
  abbrev pub Accepts : Shape → Type 0
  Accepts s = app_lit T (λ t. read_sort T a t) (λ x u. read_with T true a x u) true e s ≡ Ok k

  pub app-accepts : (us : Trees) → read_with T true (suc a) e (app us) ≡ Ok k → Accepts (shape us)
  unfolding read_with
  app-accepts us m = m

  value-is : {l : Lit} → ◌≡◌ {A = Result Lit Refusal} (Ok l) (Ok k) → k.value ≡ l.value
  value-is m = ap (λ (l : Lit). l.value) (sym (ok_same m))

  pub is_none : (t : Tree) → Accepts (as_none t) → k.value ≡ v_none
  is_none t m =
      let w = went _ _ k m in
      let z = went _ _ k w.next in
      value-is z.next

  pub is_as_some : (t v : Tree) → Accepts (as_some t v) → Inner T a v k.value
  is_as_some t v m =
      let w = went _ _ k m in
      let z = went _ _ k w.next in
      let y = went _ _ k z.next in
      let q = passed _ UnmatchedType _ k y.next in
      let x = went _ _ y.got y.first in
      record { expected = _; inner = z.got; was = z.first; is = value-is q.1 ∙ ap (λ (l : Lit). l.value) (sym (ok_same x.next)) }

  pub is_some : (v : Tree) → Accepts (some_of v) → Inner T a v k.value
  is_some v m =
      let w = went _ _ k m in
      let z = went _ _ k w.next in
      let y = went _ _ k z.next in
      record { expected = w.got; inner = z.got; was = z.first; is = value-is y.next }

  pub is-empty : (t : Tree) → Accepts (as_empty t) → (vs : Values) × (k.value ≡ v_set vs)
  is-empty t m =
      let w = went _ _ k m in
      let z = went _ _ k w.next in
      (v_nil, value-is z.next)

  pub is-singleton : (v : Tree) → Accepts (singleton v) → (vs : Values) × (k.value ≡ v_set vs)
  is-singleton v m =
      let w = went _ _ k m in
      let z = went _ _ k w.next in
      let y = went _ _ k z.next in
      (v_cons z.got.value v_nil, value-is y.next)

  pub is_union : (v w : Tree) → Accepts (union v w) → (vs : Values) × (k.value ≡ v_set vs)
  is_union v w m =
      let f = went _ _ k m in
      let z = went _ _ k f.next in
      let p = passed _ UnmatchedType _ k z.next in
      let y = went _ _ k p.1 in
      let x = went _ _ k y.next in
      (both y.got x.got, value-is x.next)

  pub is-extension : (x : Ext) (n : ℕ) → Accepts (extension x n) → k.value ≡ v_ext x (signed 64 (n % 2 ^ 64))
  is-extension x n m = let w = went _ _ k m in value-is w.next

  pub is-indexed : (ds : List ℕ) (w : ℕ) → Accepts (indexed ds w) → Numbered ds w k.value
  is-indexed ds w m =
      let g = went _ _ k m in
      let o = passed _ IntegerOverflow _ k g.next in
      let q = (passed _ ZeroWidthBitVec _ k o.1).1 in
      by_test (ltb w 128 && leb (2 ^ w) g.got)
      (λ h. refuses (rw h at q))
      (λ h.
      let p = went _ _ k (rw h at q) in
      record {
        number = g.got;
        was = g.first;
        small = ltb-true w (2 ^ 32) o.0;
        fits = width_fits w g.got h (number_fits Radix.Decimal (unsigned ds) g.got g.first);
        is = value-is p.next;
      })

  module _ (most : a ≤ levels) where
    operand-is : (v : Tree) (l : Lit) → read_with T true a None v ≡ Ok l → kept (read_with T true levels None v) ≡ Some l
    operand-is v l m = ap kept (at-levels T true a None v l most m)

    pub is-unary : (op : UnaryOp) (v : Tree) → Accepts (unary op v) → Decided T (unary op v) k.value
    is-unary op v m =
        let w = went _ _ k m in
        let z = went _ _ k w.next in
        let x = went _ _ k z.next in
        let o = was-found UnmatchedType (unary_of op w.got) z.got z.first in
        let b = unary_bool op w.got z.got o in
        record {
          truth = b.0;
          decides =
              ap (λ (r : Option Lit). over r (λ l. over (unary_of op l) truth_of)) (operand-is v w.got w.first)
              ∙ ap (λ (r : Option Value). over r truth_of) o
              ∙ ap truth_of b.1;
          is = value-is x.next ∙ b.1;
        }

    pub is-binary : (op : BinaryOp) (v w : Tree) → Accepts (binary op v w) → Decided T (binary op v w) k.value
    is-binary op v u m =
        let w = went _ _ k m in
        let y = went _ _ k w.next in
        let z = went _ _ k y.next in
        let x = went _ _ k z.next in
        let o = was-found UnmatchedType (binary_of op w.got y.got) z.got z.first in
        let b = binary_bool op w.got y.got z.got o in
        record {
          truth = b.0;
          decides =
              ap (λ (r : Option Lit). over r (λ l. over (kept (read_with T true levels None u)) (λ n. over (binary_of op l n) truth_of))) (operand-is v w.got w.first)
              ∙ ap (λ (r : Option Lit). over r (λ n. over (binary_of op w.got n) truth_of)) (operand-is u y.got y.first)
              ∙ ap (λ (r : Option Value). over r truth_of) o
              ∙ ap truth_of b.1;
          is = value-is x.next ∙ b.1;
        }

  -- an entity's text
  pub is-entity : (row : ℕ) (us : Trees) → entity_lit row us ≡ Ok k → (s : List ℕ) × (us ≡ cons (quoted s) nil) × (k.value ≡ v_entity row s)
  is-entity row nil m = refuses m
  is-entity row (cons (bits w n) us) m = refuses m
  is-entity row (cons (numeral n) us) m = refuses m
  is-entity row (cons (quoted s) nil) m = (s, refl, value-is m)
  is-entity row (cons (quoted s) (cons u us)) m = refuses m
  is-entity row (cons (symbol s) us) m = refuses m
  is-entity row (cons (app ts) us) m = refuses m

-- the fields of a record
pub listed : (T : Tables) (a : ℕ) (fs : List ℕ) (us : Trees) (vs : Values) → same_count fs us ≡ true → fields_of (λ x u. read_with T true a x u) fs us ≡ Ok vs → Listed T a us vs
listed T a [] nil vs c m = subst (λ (k : Values). Listed T a nil k) (ok_same m) l_nil
listed T a [] (cons u us) vs c m = absurd (true≢false (sym c))
listed T a (f ∷ fs) nil vs c m = absurd (true≢false (sym c))
listed T a (f ∷ fs) (cons u us) vs c m =
    let w = went _ _ vs m in
    let q = passed _ UnmatchedFieldType _ vs w.next in
    let z = went _ _ vs q.1 in
    subst (λ (k : Values). Listed T a (cons u us) k) (ok_same z.next) (l_cons (Some f) w.got w.first (listed T a fs us z.got c z.first))
