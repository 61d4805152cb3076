-- One law for each way out of the matching of words and counts.
-- Assumes nothing.
use Rattle.std.proofs.Common.{None, Option, Some}
use mathlib.Core.Path.{◌≡◌, refl, sym, ap, ◌∙◌, subst}
use mathlib.Core.Bool.{Bool, true, false, true≢false}
use mathlib.Core.List.{List}
use Prim.Native.Nat.{ℕ, ◌%◌, ◌^◌}
use Prim.Native.String.{String}
use lib.Dec.{eqb}
use Rattle.ground.specs.Bytes.{bytes}
use Rattle.arena.specs.Node.{after_at}
use Rattle.arena.specs.Text.{text_is}
use Rattle.arena.specs.Tree.{Tree, Trees, bit_vec, numeral, string, symbol, app, nil, cons}
use Rattle.shapes.specs.declared.shape.Found.{Found}
use Rattle.shapes.specs.declared.shape.BinaryOp.{BinaryOp}
use Rattle.shapes.specs.declared.shape.Kind.{Kind}
use Rattle.shapes.specs.declared.shape.UnaryOp.{UnaryOp}
use Rattle.shapes.specs.Shape.{Shape, made, is, on_symbol, on_numeral, on_bit_vec, on_app, ext_shape, one, two, pair_shape}
use Rattle.shapes.specs.Shows.{Standing, Reads, Shows, OneAt, TwoAt, WideAt}
use Rattle.shapes.proofs.Stood.{first_of, second-of, said-so}

-- a tree that is of another kind
pub not-symbol {ℓ} : {A : Type ℓ} (a : Tree) (d : A) (k : List ℕ → A) → on_symbol a false (λ s. true) ≡ false → on_symbol a d k ≡ d
not-symbol (bit_vec w n) d k e = refl
not-symbol (numeral n) d k e = refl
not-symbol (string s) d k e = refl
not-symbol (symbol s) d k e = absurd (true≢false e)
not-symbol (app us) d k e = refl

pub not-numeral {ℓ} : {A : Type ℓ} (a : Tree) (d : A) (k : ℕ → A) → on_numeral a false (λ n. true) ≡ false → on_numeral a d k ≡ d
not-numeral (bit_vec w n) d k e = refl
not-numeral (numeral n) d k e = absurd (true≢false e)
not-numeral (string s) d k e = refl
not-numeral (symbol s) d k e = refl
not-numeral (app us) d k e = refl

pub not-app {ℓ} : {A : Type ℓ} (a : Tree) (d : A) (k : Trees → A) → on_app a false (λ us. true) ≡ false → on_app a d k ≡ d
not-app (bit_vec w n) d k e = refl
not-app (numeral n) d k e = refl
not-app (string s) d k e = refl
not-app (symbol s) d k e = refl
not-app (app us) d k e = absurd (true≢false e)

not_wide : (f : List ℕ) (a : Tree) → on_bit_vec a false (λ w n. eqb w 64) ≡ false → ext_shape f a ≡ made f (cons a nil)
not_wide f (bit_vec w n) e = rw e
not_wide f (numeral n) e = refl
not_wide f (string s) e = refl
not_wide f (symbol s) e = refl
not_wide f (app us) e = refl

-- a shape that is another, with what is shown of it
pub shown_as : (ws ts : List ℕ) (r : Found) (s t : Shape) → s ≡ t → Shows ws ts r t → Shows ws ts r s
shown_as ws ts r s t e h = subst (λ (x : Shape). Shows ws ts r x) (sym e) h

module _ (ws ts : List ℕ) (offset size first : ℕ) where
  abbrev Says : List ℕ → Bool → Type 0
  Says name b = text_is ts offset size name ≡ b

  so : (f : List ℕ) → Reads f ts offset size → (word : String) (b : Bool) → Says (bytes word) b → is f word ≡ b
  so f r word b h = said-so ts offset size f r (bytes word) b h

  -- an application to one argument that is a name's
  one-made : (f : List ℕ) (a : Tree) → Reads f ts offset size → Standing a ws ts first → Shows ws ts (Found.Made offset size first 1) (made f (cons a nil))
  one-made f a r s =
      (f, (cons a nil), refl, r, record { next = s.next; from = s.from; rest = s.rest; there = record { mid = s.next; off = s.rest; first = s.there; others = record { next = refl; rest = refl } }; many-are = refl })

  -- (Decimal b), (Datetime b), (Duration b)
  pub ext-not-wide : (w : Option ℕ) → WideAt ws first w → w ≡ None → OneAt ext_shape ws ts offset size first (Found.Made offset size first 1)
  ext-not-wide w h e = (
    refl,
    λ f a r s.
        let g = subst (λ (x : Option ℕ). WideAt ws first x) e h in
        shown_as ws ts (Found.Made offset size first 1) (ext_shape f a) (made f (cons a nil)) (not_wide f a (g ts a s)) (one-made f a r s),
  )

  module _ (w : Option ℕ) (low : ℕ) (wide : WideAt ws first w) (bits : w ≡ Some low) where
    seen : (a : Tree) → Standing a ws ts first → (n : ℕ) × (a ≡ bit_vec 64 n) × (low ≡ n % 2 ^ 64)
    seen a s = subst (λ (x : Option ℕ). WideAt ws first x) bits wide ts a s

    pub ext-decimal : Says (bytes "Decimal") true → OneAt ext_shape ws ts offset size first (Found.Extension Kind.Decimal low)
    ext-decimal h0 = (tt, λ f a r s. let g = seen a s in (g.0, ap (λ (b : Tree). ext_shape f b) g.1 ∙ rw (so f r "Decimal" true h0), g.2))

    pub ext_datetime : Says (bytes "Decimal") false → Says (bytes "Datetime") true → OneAt ext_shape ws ts offset size first (Found.Extension Kind.Datetime low)
    ext_datetime h0 h1 = (tt, λ f a r s. let g = seen a s in (g.0, ap (λ (b : Tree). ext_shape f b) g.1 ∙ rw (so f r "Decimal" false h0, so f r "Datetime" true h1), g.2))

    pub ext_duration : Says (bytes "Decimal") false → Says (bytes "Datetime") false → Says (bytes "Duration") true → OneAt ext_shape ws ts offset size first (Found.Extension Kind.Duration low)
    ext_duration h0 h1 h2 = (tt, λ f a r s. let g = seen a s in (g.0, ap (λ (b : Tree). ext_shape f b) g.1 ∙ rw (so f r "Decimal" false h0, so f r "Datetime" false h1, so f r "Duration" true h2), g.2))

    pub ext-made : Says (bytes "Decimal") false → Says (bytes "Datetime") false → Says (bytes "Duration") false → OneAt ext_shape ws ts offset size first (Found.Made offset size first 1)
    ext-made h0 h1 h2 = (
      refl,
      λ f a r s.
          let g = seen a s in
          let e : ext_shape f (bit_vec 64 g.0) ≡ made f (cons (bit_vec 64 g.0) nil) = rw (so f r "Decimal" false h0, so f r "Datetime" false h1, so f r "Duration" false h2) in
          shown_as ws ts (Found.Made offset size first 1) (ext_shape f a) (made f (cons a nil)) (subst (λ (b : Tree). ext_shape f b ≡ made f (cons b nil)) (sym g.1) e) (one-made f a r s),
    )

  -- (f a)
  pub one-not : Says (bytes "not") true → OneAt one ws ts offset size first (Found.Unary UnaryOp.Not first)
  one-not h0 = (refl, λ f a r s. (a, rw (so f r "not" true h0), s))

  pub one-bvnego : Says (bytes "not") false → Says (bytes "bvnego") true → OneAt one ws ts offset size first (Found.Unary UnaryOp.Bvnego first)
  one-bvnego h0 h1 = (refl, λ f a r s. (a, rw (so f r "not" false h0, so f r "bvnego" true h1), s))

  pub one-some : Says (bytes "not") false → Says (bytes "bvnego") false → Says (bytes "some") true → OneAt one ws ts offset size first (Found.SomeOf first)
  one-some h0 h1 h2 = (refl, λ f a r s. (a, rw (so f r "not" false h0, so f r "bvnego" false h1, so f r "some" true h2), s))

  pub one-singleton : Says (bytes "not") false → Says (bytes "bvnego") false → Says (bytes "some") false → Says (bytes "set.singleton") true → OneAt one ws ts offset size first (Found.Singleton first)
  one-singleton h0 h1 h2 h3 = (refl, λ f a r s. (a, rw (so f r "not" false h0, so f r "bvnego" false h1, so f r "some" false h2, so f r "set.singleton" true h3), s))

  pub one-ext : Says (bytes "not") false → Says (bytes "bvnego") false → Says (bytes "some") false → Says (bytes "set.singleton") false → (q : Found) → OneAt ext_shape ws ts offset size first q → OneAt one ws ts offset size first q
  one-ext h0 h1 h2 h3 q k = (k.0, λ f a r s. shown_as ws ts q (one f a) (ext_shape f a) (rw (so f r "not" false h0, so f r "bvnego" false h1, so f r "some" false h2, so f r "set.singleton" false h3)) (k.1 f a r s))

  -- (f a b)
  module _ (second : ℕ) (next : second ≡ after_at ws first) where
    pub two_or : Says (bytes "or") true → TwoAt two ws ts offset size first (Found.Binary BinaryOp.Or first second)
    two_or h0 = ((refl, next), λ f a b r s. (a, b, rw (so f r "or" true h0), first_of ws ts a (cons b nil) first 2 s, second-of ws ts first second next a b s))

    pub two-equal : Says (bytes "or") false → Says (bytes "=") true → TwoAt two ws ts offset size first (Found.Binary BinaryOp.Equal first second)
    two-equal h0 h1 = ((refl, next), λ f a b r s. (a, b, rw (so f r "or" false h0, so f r "=" true h1), first_of ws ts a (cons b nil) first 2 s, second-of ws ts first second next a b s))

    pub two-bvsaddo : Says (bytes "or") false → Says (bytes "=") false → Says (bytes "bvsaddo") true → TwoAt two ws ts offset size first (Found.Binary BinaryOp.Bvsaddo first second)
    two-bvsaddo h0 h1 h2 = ((refl, next), λ f a b r s. (a, b, rw (so f r "or" false h0, so f r "=" false h1, so f r "bvsaddo" true h2), first_of ws ts a (cons b nil) first 2 s, second-of ws ts first second next a b s))

    pub two-bvsmulo : Says (bytes "or") false → Says (bytes "=") false → Says (bytes "bvsaddo") false → Says (bytes "bvsmulo") true → TwoAt two ws ts offset size first (Found.Binary BinaryOp.Bvsmulo first second)
    two-bvsmulo h0 h1 h2 h3 = ((refl, next), λ f a b r s. (a, b, rw (so f r "or" false h0, so f r "=" false h1, so f r "bvsaddo" false h2, so f r "bvsmulo" true h3), first_of ws ts a (cons b nil) first 2 s, second-of ws ts first second next a b s))

    pub two-union : Says (bytes "or") false → Says (bytes "=") false → Says (bytes "bvsaddo") false → Says (bytes "bvsmulo") false → Says (bytes "set.union") true → TwoAt two ws ts offset size first (Found.Union first second)
    two-union h0 h1 h2 h3 h4 = ((refl, next), λ f a b r s. (a, b, rw (so f r "or" false h0, so f r "=" false h1, so f r "bvsaddo" false h2, so f r "bvsmulo" false h3, so f r "set.union" true h4), first_of ws ts a (cons b nil) first 2 s, second-of ws ts first second next a b s))

  pub two_v4 : Says (bytes "or") false → Says (bytes "=") false → Says (bytes "bvsaddo") false → Says (bytes "bvsmulo") false → Says (bytes "set.union") false → Says (bytes "V4") true → TwoAt two ws ts offset size first Found.Uncovered
  two_v4 h0 h1 h2 h3 h4 h5 = (tt, λ f a b r s. rw (so f r "or" false h0, so f r "=" false h1, so f r "bvsaddo" false h2, so f r "bvsmulo" false h3, so f r "set.union" false h4, so f r "V4" true h5))

  pub two_v6 : Says (bytes "or") false → Says (bytes "=") false → Says (bytes "bvsaddo") false → Says (bytes "bvsmulo") false → Says (bytes "set.union") false → Says (bytes "V4") false → Says (bytes "V6") true → TwoAt two ws ts offset size first Found.Uncovered
  two_v6 h0 h1 h2 h3 h4 h5 h6 = (tt, λ f a b r s. rw (so f r "or" false h0, so f r "=" false h1, so f r "bvsaddo" false h2, so f r "bvsmulo" false h3, so f r "set.union" false h4, so f r "V4" false h5, so f r "V6" true h6))

  pub two-pair : Says (bytes "or") false → Says (bytes "=") false → Says (bytes "bvsaddo") false → Says (bytes "bvsmulo") false → Says (bytes "set.union") false → Says (bytes "V4") false → Says (bytes "V6") false → (q : Found) → TwoAt pair_shape ws ts offset size first q → TwoAt two ws ts offset size first q
  two-pair h0 h1 h2 h3 h4 h5 h6 q k = (k.0, λ f a b r s. shown_as ws ts q (two f a b) (pair_shape f a b) (rw (so f r "or" false h0, so f r "=" false h1, so f r "bvsaddo" false h2, so f r "bvsmulo" false h3, so f r "set.union" false h4, so f r "V4" false h5, so f r "V6" false h6)) (k.1 f a b r s))
