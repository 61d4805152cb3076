-- Applications to two arguments of which the first is a symbol: (as none T), (as set.empty T), (_ bvN W).
-- Assumes nothing.
use Rattle.std.proofs.Common.{None, Option, Some}
use mathlib.Core.Path.{◌≡◌, refl, sym, ap, ◌∙◌, subst}
use mathlib.Core.Bool.{Bool, true, false, cond, true≢false}
use mathlib.Core.List.{List, [], ◌∷◌, ◌++◌}
use Prim.Native.Nat.{ℕ, ◌+◌, ◌*◌, ◌-◌, ◌^◌, ◌<◌, ◌≤◌}
use native.Mathlib.Omega.{arith}
use lib.Dec.{eqb}
use lib.ListN.{length, take, drop, length-drop}
use lib.Seq.{length-take-le, take-add, drop-drop}
use Rattle.ground.specs.Bytes.{bytes}
use Rattle.ground.proofs.Tests.{by_order, and-true}
use Rattle.arena.specs.Node.{after_at}
use Rattle.arena.specs.Text.{text_at, same_text, text_is}
use Rattle.arena.specs.Tree.{Tree, numeral, symbol, nil, cons}
use Rattle.arena.proofs.Texts.{is_within, is-past}
use Rattle.shapes.specs.declared.shape.Found.{Found}
use Rattle.shapes.specs.Shape.{Shape, made, indexed, on_bv, index_shape, word_shape, pair_shape}
use Rattle.shapes.specs.Shows.{StandingAll, Reads, Shows, Placed, TwoAt, IndexAt, WordAt, IndexOf}
use Rattle.shapes.proofs.Stood.{first_of, second-of, said-so, said-name}
use Rattle.shapes.proofs.Seen.{seen-word}
use Rattle.shapes.proofs.Arms.{not-symbol, not-numeral, shown_as}
use Rattle.shapes.specs.declared.look.Index.{Index}
use Rattle.shapes.specs.declared.look.Word.{Word}

-- the text is read apart: its first two bytes, and the others
bv_short {ℓ} : {A : Type ℓ} (g : List ℕ) (d : A) (k : List ℕ → A) → length g < 2 → on_bv g d k ≡ d
bv_short [] d k h = refl
bv_short (a ∷ []) d k h = refl
bv_short (a ∷ b ∷ g) d k h = absurd (omega arith)

bv_split {ℓ} : {A : Type ℓ} (p q : List ℕ) (d : A) (k : List ℕ → A) → length p ≡ 2 → on_bv (p ++ q) d k ≡ cond (same_text p (bytes "bv")) (k q) d
unfolding same_text
bv_split [] q d k h = absurd (omega arith)
bv_split (a ∷ []) q d k h = absurd (omega arith)
bv_split (a ∷ b ∷ []) q d k h = rw (and-true (eqb b 118))
bv_split (a ∷ b ∷ c ∷ p) q d k h = absurd (omega arith)

module _ (ts : List ℕ) (off long : ℕ) (g : List ℕ) (r : Reads g ts off long) (enough : 2 ≤ long) where
  within : off + 2 ≤ length ts
  within = let w = r.within in omega arith

  abbrev others : List ℕ
  others = text_at ts (off + 2) (long - 2)

  parts : g ≡ text_at ts off 2 ++ others
  parts =
      let e : 2 + (long - 2) ≡ long = omega arith in
      sym r.bytes ∙ ap (λ (n : ℕ). take n (drop off ts)) (sym e) ∙ take-add 2 (long - 2) (drop off ts)
      ∙ ap (λ (l : List ℕ). text_at ts off 2 ++ take (long - 2) l) (drop-drop 2 off ts)

  two-long : length (text_at ts off 2) ≡ 2
  two-long = let w = within in length-take-le 2 (drop off ts) (subst (λ (n : ℕ). 2 ≤ n) (sym (length-drop off ts)) (omega arith))

  pub others-read : Reads others ts (off + 2) (long - 2)
  others-read =
      let w = r.within in
      record {
        bytes = refl;
        long = sym (length-take-le (long - 2) (drop (off + 2) ts) (subst (λ (n : ℕ). long - 2 ≤ n) (sym (length-drop (off + 2) ts)) (omega arith)));
        within = omega arith;
      }

  pub starts_bv {ℓ} : {A : Type ℓ} (d : A) (k : List ℕ → A) (b : Bool) → text_is ts off 2 (bytes "bv") ≡ b → on_bv g d k ≡ cond b (k others) d
  starts_bv d k b h =
      ap (λ (l : List ℕ). on_bv l d k) parts ∙ bv_split (text_at ts off 2) others d k two-long
      ∙ ap (λ (t : Bool). cond t (k others) d) (is_within ts off 2 (bytes "bv") within ∙ h)

-- a text that is found lies within
pub bv_within : (ts : List ℕ) (off n : ℕ) (name : List ℕ) → text_is ts off n name ≡ true → off + n ≤ length ts
bv_within ts off n name h = by_order (length ts) (off + n) (λ l. absurd (true≢false (sym h ∙ sym (is-past ts off n name l)))) (λ l. l)

word-index : (f g : List ℕ) (b : Tree) → f ≡ bytes "_" → word_shape f g b ≡ index_shape f g b
unfolding same_text
word-index f g b e = subst (λ (n : List ℕ). word_shape n g b ≡ index_shape n g b) (sym e) refl

module _ (ws ts : List ℕ) (offset size first : ℕ) where
  -- an application to two arguments that is a name's
  pub two_made : (f : List ℕ) (a b : Tree) → Reads f ts offset size → StandingAll (cons a (cons b nil)) ws ts first 2 →
      Shows ws ts (Found.Made offset size first 2) (made f (cons a (cons b nil)))
  two_made f a b r s = (f, cons a (cons b nil), refl, r, s)

  module _ (off long second : ℕ) (here : second ≡ after_at ws first) where
    pub index-other : (w : Option Index) → IndexOf ws second w → w ≡ None → IndexAt ws ts offset size off long first (Found.Made offset size first 2)
    index-other w h e = (
      refl,
      λ f g b r q s.
          let n = subst (λ (x : Option Index). IndexOf ws second x) e h in
          shown_as ws ts (Found.Made offset size first 2) (index_shape f g b) (made f (cons (symbol g) (cons b nil)))
          (not-numeral b _ _ (n ts b (second-of ws ts first second here (symbol g) b s))) (two_made f (symbol g) b r s),
    )

    module _ (w : Option Index) (low high : ℕ) (h : IndexOf ws second w) (e : w ≡ Some (record { low = low; high = high })) where
      number : (a b : Tree) → StandingAll (cons a (cons b nil)) ws ts first 2 → b ≡ numeral (low + high * 2 ^ 64)
      number a b s = subst (λ (x : Option Index). IndexOf ws second x) e h ts b (second-of ws ts first second here a b s)

      abbrev Named : List ℕ → List ℕ → Tree → Shape
      Named f g b = made f (cons (symbol g) (cons b nil))

      pub index_short : long < 2 → IndexAt ws ts offset size off long first (Found.Made offset size first 2)
      index_short l = (
        refl,
        λ f g b r q s.
            let m = q.long in
            let n = numeral (low + high * 2 ^ 64) in
            let same : index_shape f g n ≡ Named f g n = bv_short g (Named f g n) (λ digits. indexed digits (low + high * 2 ^ 64)) (omega arith) in
            shown_as ws ts (Found.Made offset size first 2) (index_shape f g b) (Named f g b)
            (subst (λ (x : Tree). index_shape f g x ≡ Named f g x) (sym (number (symbol g) b s)) same) (two_made f (symbol g) b r s),
      )

      pub index-other-name : 2 ≤ long → text_is ts off 2 (bytes "bv") ≡ false → IndexAt ws ts offset size off long first (Found.Made offset size first 2)
      index-other-name l t = (
        refl,
        λ f g b r q s.
            let n = numeral (low + high * 2 ^ 64) in
            let same : index_shape f g n ≡ Named f g n = starts_bv ts off long g q l (Named f g n) (λ digits. indexed digits (low + high * 2 ^ 64)) false t in
            shown_as ws ts (Found.Made offset size first 2) (index_shape f g b) (Named f g b)
            (subst (λ (x : Tree). index_shape f g x ≡ Named f g x) (sym (number (symbol g) b s)) same) (two_made f (symbol g) b r s),
      )

      pub index_bv : 2 ≤ long → text_is ts off 2 (bytes "bv") ≡ true → IndexAt ws ts offset size off long first (Found.Indexed (off + 2) (long - 2) low high)
      index_bv l t = (
        tt,
        λ f g b r q s.
            let n = numeral (low + high * 2 ^ 64) in
            let same : index_shape f g n ≡ indexed (text_at ts (off + 2) (long - 2)) (low + high * 2 ^ 64) =
            starts_bv ts off long g q l (Named f g n) (λ digits. indexed digits (low + high * 2 ^ 64)) true t in
            (text_at ts (off + 2) (long - 2), ap (λ (x : Tree). index_shape f g x) (number (symbol g) b s) ∙ same, others-read ts off long g q l),
      )

  pub pair-other : (w : Option Word) → WordAt ws first w → w ≡ None → TwoAt pair_shape ws ts offset size first (Found.Made offset size first 2)
  pair-other w h e = (
    refl,
    λ f a b r s.
        let n = subst (λ (x : Option Word). WordAt ws first x) e h in
        shown_as ws ts (Found.Made offset size first 2) (pair_shape f a b) (made f (cons a (cons b nil)))
        (not-symbol a _ _ (n ts a (first_of ws ts a (cons b nil) first 2 s))) (two_made f a b r s),
  )

  module _ (w : Option Word) (off long : ℕ) (h : WordAt ws first w) (e : w ≡ Some (record { size = long; offset = off })) where
    so : (f : List ℕ) → Reads f ts offset size → (name : List ℕ) (t : Bool) → text_is ts offset size name ≡ t → same_text f name ≡ t
    so f r name t k = said-so ts offset size f r name t k

    so-too : (g : List ℕ) → Reads g ts off long → (name : List ℕ) (t : Bool) → text_is ts off long name ≡ t → same_text g name ≡ t
    so-too g r name t k = said-so ts off long g r name t k

    -- as for a symbol, so for what stands there
    by-symbol : (q : Found) → Placed ws first q → ((f g : List ℕ) (b : Tree) → Reads f ts offset size → Reads g ts off long → StandingAll (cons (symbol g) (cons b nil)) ws ts first 2 → Shows ws ts q (word_shape f g b)) →
        TwoAt pair_shape ws ts offset size first q
    by-symbol q p k = (
      p,
      λ f a b r s.
          let g = seen-word ws first w h ts long off e a (first_of ws ts a (cons b nil) first 2 s) in
          subst (λ (x : Tree). Shows ws ts q (pair_shape f x b)) (sym g.1)
          (k f g.0 b r g.2 (subst (λ (x : Tree). StandingAll (cons x (cons b nil)) ws ts first 2) g.1 s)),
    )

    pub pair-index : text_is ts offset size (bytes "_") ≡ true → (q : Found) → IndexAt ws ts offset size off long first q → TwoAt pair_shape ws ts offset size first q
    pair-index t q k = by-symbol q k.0 (λ f g b r u s. shown_as ws ts q (word_shape f g b) (index_shape f g b) (word-index f g b (said-name ts offset size f r (bytes "_") t)) (k.1 f g b r u s))

    module _ (score : text_is ts offset size (bytes "_") ≡ false) where
      pub pair-named : text_is ts offset size (bytes "as") ≡ false → TwoAt pair_shape ws ts offset size first (Found.Made offset size first 2)
      pair-named t =
          by-symbol (Found.Made offset size first 2) refl
          (λ f g b r u s. shown_as ws ts (Found.Made offset size first 2) (word_shape f g b) (made f (cons (symbol g) (cons b nil)))
          (rw (so f r (bytes "as") false t, so f r (bytes "_") false score)) (two_made f (symbol g) b r s))

      module _ (t : text_is ts offset size (bytes "as") ≡ true) where
        pub pair-other-word : text_is ts off long (bytes "none") ≡ false → text_is ts off long (bytes "set.empty") ≡ false → TwoAt pair_shape ws ts offset size first (Found.Made offset size first 2)
        pair-other-word n m =
            by-symbol (Found.Made offset size first 2) refl
            (λ f g b r u s. shown_as ws ts (Found.Made offset size first 2) (word_shape f g b) (made f (cons (symbol g) (cons b nil)))
            (rw (so f r (bytes "as") true t, so-too g u (bytes "none") false n, so-too g u (bytes "set.empty") false m, so f r (bytes "_") false score)) (two_made f (symbol g) b r s))

        module _ (second : ℕ) (here : second ≡ after_at ws first) where
          pub pair-none : text_is ts off long (bytes "none") ≡ true → TwoAt pair_shape ws ts offset size first (Found.AsNone second)
          pair-none n =
              by-symbol (Found.AsNone second) tt
              (λ f g b r u s. (b, rw (so f r (bytes "as") true t, so-too g u (bytes "none") true n), second-of ws ts first second here (symbol g) b s))

          pub pair-empty : text_is ts off long (bytes "none") ≡ false → text_is ts off long (bytes "set.empty") ≡ true → TwoAt pair_shape ws ts offset size first (Found.AsEmpty second)
          pair-empty n m =
              by-symbol (Found.AsEmpty second) tt
              (λ f g b r u s. (b, rw (so f r (bytes "as") true t, so-too g u (bytes "none") false n, so-too g u (bytes "set.empty") true m), second-of ws ts first second here (symbol g) b s))
