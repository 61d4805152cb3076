-- A literal that is read, its operators worked out or not, means its value, in lawful tables and where the argument's name is apart.
-- Assumes nothing.
use Rattle.std.proofs.Common.{None, Option, Some, Ok}
use mathlib.Core.Path.{◌≡◌, refl, sym, ap, ap₂, ◌∙◌}
use mathlib.Core.Bool.{Bool, true, false, not, cond, ◌&&◌, true≢false}
use mathlib.Core.List.{List}
use Prim.Native.Nat.{ℕ, zero, suc}
use native.Mathlib.Omega.{arith}
use lib.Dec.{eqb, ltb, leb}
use lib.IntN.{◌+ℤ◌, ◌*ℤ◌}
use lib.ListN.{length}
use Rattle.ground.specs.Bytes.{bytes}
use Rattle.ground.specs.Lists.{any, all, at}
use Rattle.ground.specs.Options.{over}
use Rattle.ground.proofs.Tests.{by_test, both_left, both_right}
use Rattle.arena.specs.Text.{same_text}
use Rattle.arena.specs.Tree.{Tree, Trees, symbol, app, cons}
use Rattle.arena.proofs.Texts.{same-equal}
use Rattle.tables.specs.Kept.{kept, kept_words}
use Rattle.tables.specs.Rules.{name_right, own_name, field_limit, lawful}
use Rattle.tables.specs.Sort.{Ext, decimal, datetime, duration, entity_of, record_of, Tables}
use Rattle.tables.proofs.Lawful.{lawful-parts, sort-right}
use Rattle.shapes.specs.declared.shape.BinaryOp.{BinaryOp}
use Rattle.shapes.specs.declared.shape.UnaryOp.{UnaryOp}
use Rattle.sorts.specs.Sort.{levels}
use Rattle.values.specs.Normal.{normal}
use Rattle.values.specs.Operators.{negated, either, equals, chosen, bvnego, bvsaddo, bvsmulo}
use Rattle.values.specs.Value.{Value, v_bool}
use Rattle.values.proofs.Operators.{negated-normal, either-normal, bvnego-normal, leaving-normal, chosen-normal}
use Rattle.means.specs.Literal.{Lit, unary_of, binary_of, read_with}
use Rattle.well_sorted.proofs.Results.{refuses}
use Rattle.well_sorted.proofs.Views.{ext_name, call1, call2, call3, unary_name, binary_name}
use Rattle.well_sorted.proofs.Readings.{Reading, r-bits, r-string, r_true, r_false, r-member, r-none, r-as_some, r_some, r-empty, r-singleton, r-union, r-unary, r-binary, r-ite, r-extension, r-indexed, r-entity, r_record, reading}
use Rattle.well_sorted.proofs.Deeper.{deeper}
use Rattle.demand.specs.Mention.{same_name, mentions}
use Rattle.demand.specs.Meaning.{Meant, both, choice, literal, operated, meaning_with, meanings_with}
use Rattle.demand.specs.Premise.{apart}
use Rattle.demand.proofs.Free.{free_read}

-- a name that is no kept word is none of the operators
not-word : (f w : List ℕ) → kept f ≡ false → kept w ≡ true → same_text f w ≡ false
not-word f w n k = by_test (same_text f w) (λ h. absurd (true≢false (sym k ∙ sym (ap kept (same-equal f w h)) ∙ n))) (λ h. h)

-- a word that is none of them
abbrev Headless : List ℕ → Type 0
Headless f = (ms : List Meant) (e : Option ℕ) (d : Option Value) → operated f ms e d ≡ d

other-head : (f : List ℕ) → kept f ≡ false → Headless f
unfolding kept kept_words any same_text
other-head f n ms e d =
    rw (
      not-word f (bytes "ite") n refl,
      not-word f (bytes "=") n refl,
      not-word f (bytes "or") n refl,
      not-word f (bytes "not") n refl,
      not-word f (bytes "bvnego") n refl,
      not-word f (bytes "bvsaddo") n refl,
      not-word f (bytes "bvsmulo") n refl,
    ) refl

ext-head : (x : Ext) → Headless (ext_name x)
unfolding same_text
ext-head decimal ms e d = refl
ext-head datetime ms e d = refl
ext-head duration ms e d = refl

own-kept : (f : List ℕ) → own_name f ≡ true → kept f ≡ false
own-kept f h = by_test (kept f) (λ k. absurd (true≢false (sym (both_right (name_right f) (not (kept f)) h) ∙ ap not k))) (λ k. k)

-- `=` is of values in order already
equals-normal : (l m : Lit) (w : Value) → binary_of BinaryOp.Equal l m ≡ Some w → Some (equals (normal l.value) (normal m.value)) ≡ Some w
equals-normal l m w f =
    by_test (eqb l.row m.row)
    (λ h. (rw h at f))
    (λ h. let k : ◌≡◌ {A = Option Value} None (Some w) = (rw h at f) in let z : ◌≡◌ {A = ℕ} 0 1 = cc in absurd (omega arith))

module _ (T : Tables) (rules : lawful T ≡ true) where
  entity-kept : (row : ℕ) (f : List ℕ) → at T.sorts row ≡ Some (entity_of f) → kept f ≡ false
  entity-kept row f k = own-kept f (sort-right T (lawful-parts T rules) row (entity_of f) k)

  record_kept : (row : ℕ) (f fs : List ℕ) → at T.sorts row ≡ Some (record_of f fs) → kept f ≡ false
  record_kept row f fs k =
      own-kept f (both_left (own_name f) (leb (length fs) field_limit)
      (both_left (own_name f && leb (length fs) field_limit) (all (λ q. ltb q row) fs) (sort-right T (lawful-parts T rules) row (record_of f fs) k)))

  module _ (x : List ℕ) (apart-name : apart T x ≡ true) (v : Value) (worked : Bool) where
    abbrev Means : Tree → Option ℕ → Value → Type 0
    Means t e w = meaning_with worked t T x v e ≡ Some w

    not-argument : (s : List ℕ) → mentions (symbol s) x ≡ false → same_name s x ≡ false
    unfolding mentions
    not-argument s e = e

    -- what no operator heads is a literal
    atom-means : (s : List ℕ) (e : Option ℕ) (w : Value) → mentions (symbol s) x ≡ false → literal worked T x (symbol s) e ≡ Some w → Means (symbol s) e w
    unfolding meaning_with
    atom-means s e w f p = rw (not-argument s f) p

    made-means : (f : List ℕ) (us : Trees) (e : Option ℕ) (w : Value) → Headless f → literal worked T x (app (cons (symbol f) us)) e ≡ Some w → Means (app (cons (symbol f) us)) e w
    unfolding meaning_with
    made-means f us e w h p = h (meanings_with worked (cons (symbol f) us) T x v) e _ ∙ p

    -- operators, of operands that mean their values
    unary-means : (op : UnaryOp) (t : Tree) (e : Option ℕ) (l : Lit) (w : Value) → Means t None (normal l.value) → unary_of op l ≡ Some w → Means (app (call1 (unary_name op) t)) e w
    unfolding meaning_with same_text
    unary-means UnaryOp.Not t e l w p f = ap (λ (y : Option Value). over y (λ z. negated z)) p ∙ negated-normal l.value w f
    unary-means UnaryOp.Bvnego t e l w p f = ap (λ (y : Option Value). over y (λ z. bvnego z)) p ∙ bvnego-normal l.value w f

    binary-means : (op : BinaryOp) (t u : Tree) (e : Option ℕ) (l m : Lit) (w : Value) → Means t None (normal l.value) → Means u None (normal m.value) → binary_of op l m ≡ Some w →
        Means (app (call2 (binary_name op) t u)) e w
    unfolding meaning_with same_text
    binary-means BinaryOp.Or t u e l m w p q f = ap₂ (both either) p q ∙ either-normal l.value m.value w f
    binary-means BinaryOp.Equal t u e l m w p q f = ap₂ (both (λ y z. Some (equals y z))) p q ∙ equals-normal l m w f
    binary-means BinaryOp.Bvsaddo t u e l m w p q f = ap₂ (both bvsaddo) p q ∙ leaving-normal ◌+ℤ◌ l.value m.value w f
    binary-means BinaryOp.Bvsmulo t u e l m w p q f = ap₂ (both bvsmulo) p q ∙ leaving-normal ◌*ℤ◌ l.value m.value w f

    ite-means : (c t u : Tree) (e : Option ℕ) (k l m : Lit) (b : Bool) → Means c None (normal k.value) → Means t e (normal l.value) → Means u e (normal m.value) → k.value ≡ v_bool b →
        Means (app (call3 (bytes "ite") c t u)) e (normal (cond b l.value m.value))
    unfolding meaning_with same_text
    ite-means c t u e k l m b p q r f =
        ap (λ (y : Option Value). choice y (meaning_with worked t T x v e) (meaning_with worked u T x v e)) p
        ∙ ap₂ (both (chosen (normal k.value))) q r
        ∙ chosen-normal b k.value l.value m.value f

    -- where what is read one level below means its value
    module _ (a : ℕ) (below : (e : Option ℕ) (t : Tree) (l : Lit) → read_with T worked a e t ≡ Ok l → Means t e (normal l.value)) where
      reading-means : (e : Option ℕ) (t : Tree) (row : ℕ) (w : Value) → Reading worked T a e t row w → mentions t x ≡ false → literal worked T x t e ≡ Some (normal w) → Means t e (normal w)
      unfolding meaning_with same_text normal
      reading-means e _ _ _ (r-bits k) f p = p
      reading-means e _ _ _ (r-string k) f p = p
      reading-means e _ _ _ (r_true k) f p = atom-means _ e _ f p
      reading-means e _ _ _ (r_false k) f p = atom-means _ e _ f p
      reading-means e _ _ _ (r-member i m h k) f p = atom-means _ e _ f p
      reading-means e _ _ _ (r-none q h k) f p = p
      reading-means e _ _ _ (r-as_some l h k m) f p = p
      reading-means e _ _ _ (r_some y l h m k) f p = p
      reading-means e _ _ _ (r-empty q h k) f p = p
      reading-means e _ _ _ (r-singleton y l h m k) f p = p
      reading-means e _ _ _ (r-union l m g h k y z) f p = p
      reading-means e _ _ _ (r-unary {v = t} op l h m g k) f p = unary-means op t e l _ (below None t l m) g
      reading-means e _ _ _ (r-binary {v = t} {w = u} op l m h y z g k) f p = binary-means op t u e l m _ (below None t l y) (below None u m z) g
      reading-means e _ _ _ (r-ite {c = c} {v = t} {w = u} {b = b} k l m h g y z q r) f p = ite-means c t u e k l m b (below None c k g) (below e t l y) (below e u m z) q
      reading-means e _ _ _ (r-extension {x = y} k) f p = made-means _ _ e _ (ext-head y) p
      reading-means e _ _ _ (r-indexed h g k) f p = p
      reading-means e _ _ _ (r-entity {f = g} {row = row} h k) f p = made-means g _ e _ (other-head g (entity-kept row g k)) p
      reading-means e _ _ _ (r_record {f = g} {row = row} fs h k y) f p = made-means g _ e _ (other-head g (record_kept row g fs k)) p

    literal-is : (e : Option ℕ) (t : Tree) (l : Lit) → read_with T worked levels e t ≡ Ok l → literal worked T x t e ≡ Some (normal l.value)
    literal-is e t l r = rw (free_read T x apart-name worked levels e t l r, r) refl

    -- up: what is read with an allowance is read with the whole
    means-at : (a : ℕ) → ((e : Option ℕ) (t : Tree) (l : Lit) → read_with T worked a e t ≡ Ok l → read_with T worked levels e t ≡ Ok l) →
        (e : Option ℕ) (t : Tree) (l : Lit) → read_with T worked a e t ≡ Ok l → Means t e (normal l.value)
    unfolding read_with
    means-at zero up e t l r = refuses r
    means-at (suc a) up e t l r =
        reading-means a (λ d u m. means-at a (λ d u m q. up d u m (deeper T worked a d u m q)) d u m) e t l.row l.value
        (reading T worked a e t l r) (free_read T x apart-name worked (suc a) e t l r) (literal-is e t l (up e t l r))

    pub literal-means : (t : Tree) (e : Option ℕ) (l : Lit) → read_with T worked levels e t ≡ Ok l → meaning_with worked t T x v e ≡ Some (normal l.value)
    literal-means t e l r = means-at levels (λ d u m q. q) e t l r
