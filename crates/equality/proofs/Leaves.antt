-- Values without another one in them, compared: one law for each way out.
-- Assumes nothing.
use mathlib.Core.Path.{◌≡◌, refl, sym, ap, ap₂, ◌∙◌, subst}
use mathlib.Core.Bool.{Bool, false, ◌&&◌, true≢false}
use mathlib.Core.List.{List, [], ◌∷◌}
use Prim.Native.Nat.{ℕ, ◌+◌, ◌-◌, ◌*◌, ◌^◌, ◌<◌}
use native.Mathlib.Omega.{arith}
use lib.Dec.{eqb}
use lib.IntN.{pos, negsuc}
use types.Run.{OneOf, miss}
use denote.Enum.Declared.{tag_of}
use borrow.Author.Tests.{eq-eqb, ne_eqb, eqb-true}
use Rattle.ground.proofs.Tests.{by_order}
use Rattle.words.specs.Extension.{signed}
use Rattle.words.proofs.Signs.{minus, signed_low, signed_high}
use Rattle.arena.specs.Text.{text_at, same_text}
use Rattle.tables.specs.Rules.{ext_kind}
use Rattle.tables.specs.Sort.{Ext, decimal, datetime, duration}
use Rattle.shapes.specs.declared.shape.Kind.{Kind}
use Rattle.shapes.specs.Shows.{ext_of}
use Rattle.values.specs.Same.{same}
use Rattle.values.specs.Value.{Value, v_entity}
use Rattle.values.proofs.Compares.{form_of, unlike, entities-same, numbers-same}
use Rattle.forms.specs.declared.form.Form.{Form}
use Rattle.forms.specs.Form.{Says}
use Rattle.forms.specs.contracts.form.Form as FormType
use Rattle.equality.specs.Leaf.{NumberIs, EntityIs}

-- kinds by their numbers
pub kinds-are : (a b k l : Kind) (r : Bool) → a ≡ k → b ≡ l → r ≡ eqb (ext_kind (ext_of k)) (ext_kind (ext_of l)) → r ≡ eqb (ext_kind (ext_of a)) (ext_kind (ext_of b))
kinds-are a b k l r p q e = e ∙ ap₂ (λ (x y : Kind). eqb (ext_kind (ext_of x)) (ext_kind (ext_of y))) (sym p) (sym q)

kind-one : (e f : Ext) → ext_kind e ≡ ext_kind f → e ≡ f
kind-one decimal decimal h = refl
kind-one decimal datetime h = absurd (omega arith)
kind-one decimal duration h = absurd (omega arith)
kind-one datetime decimal h = absurd (omega arith)
kind-one datetime datetime h = refl
kind-one datetime duration h = absurd (omega arith)
kind-one duration decimal h = absurd (omega arith)
kind-one duration datetime h = absurd (omega arith)
kind-one duration duration h = refl

-- a word is told by its signed value
signed-one : (a b : ℕ) → a < 2 ^ 64 → b < 2 ^ 64 → signed 64 a ≡ signed 64 b → a ≡ b
signed-one a b p q e =
    by_order a (2 ^ 63)
    (λ h. by_order b (2 ^ 63)
    (λ k. low (sym (signed_low 64 a h) ∙ e ∙ signed_low 64 b k))
    (λ k. mixed (sym (signed_low 64 a h) ∙ e ∙ signed_high 64 b k ∙ minus b (2 ^ 64) q)))
    (λ h. by_order b (2 ^ 63)
    (λ k. mixed (sym (signed_low 64 b k) ∙ sym e ∙ signed_high 64 a h ∙ minus a (2 ^ 64) p))
    (λ k. high (sym (signed_high 64 a h ∙ minus a (2 ^ 64) p) ∙ e ∙ signed_high 64 b k ∙ minus b (2 ^ 64) q)))
  where
    low : pos a ≡ pos b → a ≡ b
    low e = cc

    mixed : {A : Type 0} {x y : ℕ} → pos x ≡ negsuc y → A
    mixed e = let z : ◌≡◌ {A = ℕ} 0 1 = cc in absurd (omega arith)

    high : negsuc (2 ^ 64 - a - 1) ≡ negsuc (2 ^ 64 - b - 1) → a ≡ b
    high e = let z : 2 ^ 64 - a - 1 ≡ 2 ^ 64 - b - 1 = cc in omega arith

module _ (kind : Kind) (low : ℕ) (other : Kind) (word : ℕ) where
  pub number-words : low < 2 ^ 64 → word < 2 ^ 64 → (low ≡ word → ⊥) → NumberIs kind low other word false
  number-words p q n = numbers-same (ext_of kind) (ext_of other) (signed 64 low) (signed 64 word) false (λ h. absurd (true≢false (sym h))) (λ h. absurd (n (signed-one low word p q h.1)))

  pub number-kinds : low ≡ word → (r : Bool) → r ≡ eqb (ext_kind (ext_of kind)) (ext_kind (ext_of other)) → NumberIs kind low other word r
  number-kinds e r k =
      numbers-same (ext_of kind) (ext_of other) (signed 64 low) (signed 64 word) r
      (λ h. (kind-one (ext_of kind) (ext_of other) (eqb-true _ _ (sym k ∙ h)), ap (signed 64) e))
      (λ h. k ∙ eq-eqb (ext_kind (ext_of kind)) (ext_kind (ext_of other)) (ap ext_kind h.0))

-- bits
pub widths_differ : (w x n m : ℕ) → (w ≡ x → ⊥) → false ≡ (eqb w x && eqb n m)
widths_differ w x n m h = rw (ne_eqb w x h) refl

module _ (w x n m a b c d : ℕ) (same_width_lem : w ≡ x) (one : a + b * 2 ^ 64 ≡ n) (two : c + d * 2 ^ 64 ≡ m) where
  pub lows_differ : a < 2 ^ 64 → c < 2 ^ 64 → (a ≡ c → ⊥) → false ≡ (eqb w x && eqb n m)
  lows_differ p q h = let z : n ≡ m → ⊥ = λ e. h (omega arith) in rw (eq-eqb w x same_width_lem, ne_eqb n m z) refl

  pub highs_tell : a ≡ c → eqb b d ≡ (eqb w x && eqb n m)
  highs_tell e =
      by_order b d
      (λ h. let z : n ≡ m → ⊥ = λ k. absurd (omega arith) in ne_eqb b d (λ k. absurd (omega arith)) ∙ sym (rw (eq-eqb w x same_width_lem, ne_eqb n m z) refl))
      (λ h. by_order d b
      (λ k. let z : n ≡ m → ⊥ = λ y. absurd (omega arith) in ne_eqb b d (λ y. absurd (omega arith)) ∙ sym (rw (eq-eqb w x same_width_lem, ne_eqb n m z) refl))
      (λ k. let y : b ≡ d = omega arith in let z : n ≡ m = omega arith in eq-eqb b d y ∙ sym (rw (eq-eqb w x same_width_lem, eq-eqb n m z) refl)))

-- entities
module _ (names ts : List ℕ) (row : ℕ) (s : List ℕ) where
  entity-row : (other : ℕ) (t : List ℕ) (w : Value) → w ≡ v_entity other t → (row ≡ other → ⊥) → false ≡ same (v_entity row s) w
  entity-row other t w e n = ap (λ (b : Bool). b && same_text s t) (sym (ne_eqb row other n)) ∙ entities-same row other s t ∙ ap (same (v_entity row s)) (sym e)

  entity-text : (other : ℕ) (t : List ℕ) (w : Value) → w ≡ v_entity other t → row ≡ other → (r : Bool) → r ≡ same_text s t → r ≡ same (v_entity row s) w
  entity-text other t w e n r k = k ∙ ap (λ (b : Bool). b && same_text s t) (sym (eq-eqb row other n)) ∙ entities-same row other s t ∙ ap (same (v_entity row s)) (sym e)

  module _ (right : Form) where
    pub entity-other-row : (other from long : ℕ) → right ≡ Form.Entity other from long → (row ≡ other → ⊥) → EntityIs names ts row s right false
    entity-other-row other from long d n T ms ws below i last w h =
        let k = subst (Says T ms ws ts names below i last w) d h in entity-row other k.0 w k.2 n

    pub entity-same-row : (other from long : ℕ) → right ≡ Form.Entity other from long → row ≡ other → (r : Bool) → r ≡ same_text s (text_at ts from long) → EntityIs names ts row s right r
    entity-same-row other from long d n r e T ms ws below i last w h =
        let k = subst (Says T ms ws ts names below i last w) d h in entity-text other k.0 w k.2 n r (e ∙ ap (same_text s) k.1.bytes)

    pub member-other-row : (other from long : ℕ) → right ≡ Form.Member other from long → (row ≡ other → ⊥) → EntityIs names ts row s right false
    member-other-row other from long d n T ms ws below i last w h =
        let k = subst (Says T ms ws ts names below i last w) d h in entity-row other k.0 w k.2 n

    pub member-same-row : (other from long : ℕ) → right ≡ Form.Member other from long → row ≡ other → (r : Bool) → r ≡ same_text s (text_at names from long) → EntityIs names ts row s right r
    member-same-row other from long d n r e T ms ws below i last w h =
        let k = subst (Says T ms ws ts names below i last w) d h in entity-text other k.0 w k.2 n r (e ∙ ap (same_text s) k.1.bytes)

    pub entity-unlike : OneOf (0 ∷ 1 ∷ 2 ∷ 3 ∷ 4 ∷ 5 ∷ 6 ∷ 9 ∷ 10 ∷ []) (tag_of FormType.the_type right) → EntityIs names ts row s right false
    entity-unlike h T ms ws below i last w k = unlike (v_entity row s) w (λ e. go right h w k (sym e))
      where
        go : (f : Form) → OneOf (0 ∷ 1 ∷ 2 ∷ 3 ∷ 4 ∷ 5 ∷ 6 ∷ 9 ∷ 10 ∷ []) (tag_of FormType.the_type f) → (w : Value) → Says T ms ws ts names below i last w f → form_of w ≡ 7 → ⊥
        go (Form.Truth b) h w k e = let z = ap form_of k in absurd (omega arith)
        go (Form.Text o l) h w k e = let z = ap form_of k.2 in absurd (omega arith)
        go (Form.Number o l) h w k e = let z = ap form_of k in absurd (omega arith)
        go (Form.Bits o l m) h w k e = let z = ap form_of k in absurd (omega arith)
        go Form.Nothing h w k e = let z = ap form_of k in absurd (omega arith)
        go (Form.Inside n) h w k e = let z = ap form_of k.is in absurd (omega arith)
        go Form.Set h w k e = let z = ap form_of k.1 in absurd (omega arith)
        go (Form.Entity o l m) h w k e = absurd (miss (0 ∷ 1 ∷ 2 ∷ 3 ∷ 4 ∷ 5 ∷ 6 ∷ 9 ∷ 10 ∷ []) 7 tt h)
        go (Form.Member o l m) h w k e = absurd (miss (0 ∷ 1 ∷ 2 ∷ 3 ∷ 4 ∷ 5 ∷ 6 ∷ 9 ∷ 10 ∷ []) 8 tt h)
        go (Form.Record o l m) h w k e = let z = ap form_of k.is in absurd (omega arith)
        go Form.NoForm h w k e = absurd k
