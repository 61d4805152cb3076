-- A set by its members: where one key has one element, what is arranged depends only on which elements there are.
-- Assumes nothing.
use mathlib.Core.Path.{◌≡◌, refl, ap, ap₂, sym, ◌∙◌, subst}
use mathlib.Core.Bool.{Bool, true}
use mathlib.Core.List.Memᴰ
use mathlib.Core.List.{List, [], ◌∷◌}
use Prim.Native.Nat.{ℕ}
use Rattle.order.specs.Order.{before, insert, arranged}
use Rattle.order.specs.Every.{Every, none, also, Ascends, first, Among}
use Rattle.order.proofs.Befores.{never, before_irreflexive, before_asymmetric}
use Rattle.order.proofs.Everies.{every-among, among-every}
use Rattle.order.proofs.Inserts.{insert-none, by-insert}
use Rattle.order.proofs.Arranges.{every-arranged, ascends_arranged}

module _ {A : Type 0} (key : A → List ℕ) where
  -- an element of a list that ascends is its first, or behind it
  behind : {R : Type 0} (x y : A) (ys : List A) → Ascends key (y ∷ ys) → Among x (y ∷ ys) → (x ≡ y → R) → (before (key y) (key x) ≡ true → Among x ys → R) → R
  behind x y ys (first a s) (Memᴰ.head e) f g = f e
  behind x y ys (first a s) (Memᴰ.tail m) f g = g (every-among (λ z. before (key y) (key z) ≡ true) ys a x m) m

  -- what ascends and has the same elements is one
  pub ascends_same : (xs ys : List A) → Ascends key xs → Ascends key ys → ((x : A) → Among x xs → Among x ys) → ((y : A) → Among y ys → Among y xs) → xs ≡ ys
  ascends_same [] [] s t f g = refl
  ascends_same [] (y ∷ ys) s t f g = absurd (Memᴰ.not-nil (g y (Memᴰ.head refl)))
  ascends_same (x ∷ xs) [] s t f g = absurd (Memᴰ.not-nil (f x (Memᴰ.head refl)))
  ascends_same (x ∷ xs) (y ∷ ys) (first a s) (first b t) f g =
      let e : x ≡ y =
      behind x y ys (first b t) (f x (Memᴰ.head refl)) (λ e. e)
      (λ h m. behind y x xs (first a s) (g y (Memᴰ.head refl)) (λ e. sym e) (λ k n. never (sym k ∙ before_asymmetric (key y) (key x) h))) in
      ap₂ {C = List A} (λ (z : A) (zs : List A). z ∷ zs) e
      (ascends_same xs ys s t (λ z m. later x y xs ys e a z m (f z (Memᴰ.tail m))) (λ z m. later y x ys xs (sym e) b z m (g z (Memᴰ.tail m))))
    where
      later : (x y : A) (xs ys : List A) → x ≡ y → Every (λ z. before (key x) (key z) ≡ true) xs → (z : A) → Among z xs → Among z (y ∷ ys) → Among z ys
      later x y xs ys e a z m (Memᴰ.head d) =
          never (sym (every-among (λ w. before (key x) (key w) ≡ true) xs a z m) ∙ ap (λ (w : A). before (key x) (key w)) (d ∙ sym e) ∙ before_irreflexive (key x))
      later x y xs ys e a z m (Memᴰ.tail n) = n

module _ {A : Type 0} (key : A → List ℕ) (last : Bool) where
  -- all that is arranged stands in the list
  pub among-arranged : {x : A} (xs : List A) → Among x (arranged key last xs) → Among x xs
  among-arranged {x} xs m =
      every-among (λ y. Among y xs) (arranged key last xs) (every-arranged key last (λ y. Among y xs) xs (among-every (λ y. Among y xs) xs (λ y n. n))) x m

  -- where keys tell apart what is at hand
  module _ (P : A → Type 0) (one : (a b : A) → P a → P b → key a ≡ key b → a ≡ b) where
    insert-among : (z x : A) (ys : List A) → P x → Every P ys → Among z (x ∷ ys) → Among z (insert key last x ys)
    insert-among z x [] p none m = subst (Among z) (sym (insert-none key last x)) m
    insert-among z x (y ∷ ys) p (also q qs) m =
        by-insert key last (Among z) x y ys (λ e. m) (λ e. kept (one x y p q e) m) (λ e. put (one x y p q e) m) (λ e. past (insert-among z x ys p qs) m)
      where
        kept : x ≡ y → Among z (x ∷ y ∷ ys) → Among z (y ∷ ys)
        kept e (Memᴰ.head d) = Memᴰ.head (d ∙ e)
        kept e (Memᴰ.tail n) = n

        put : x ≡ y → Among z (x ∷ y ∷ ys) → Among z (x ∷ ys)
        put e (Memᴰ.head d) = Memᴰ.head d
        put e (Memᴰ.tail (Memᴰ.head d)) = Memᴰ.head (d ∙ sym e)
        put e (Memᴰ.tail (Memᴰ.tail n)) = Memᴰ.tail n

        past : (Among z (x ∷ ys) → Among z (insert key last x ys)) → Among z (x ∷ y ∷ ys) → Among z (y ∷ insert key last x ys)
        past f (Memᴰ.head d) = Memᴰ.tail (f (Memᴰ.head d))
        past f (Memᴰ.tail (Memᴰ.head d)) = Memᴰ.head d
        past f (Memᴰ.tail (Memᴰ.tail n)) = Memᴰ.tail (f (Memᴰ.tail n))

    -- each element stays
    pub arranged-among : {x : A} (xs : List A) → Every P xs → Among x xs → Among x (arranged key last xs)
    unfolding arranged
    arranged-among {x} (y ∷ xs) (also p ps) (Memᴰ.head e) = insert-among x y (arranged key last xs) p (every-arranged key last P xs ps) (Memᴰ.head e)
    arranged-among {x} (y ∷ xs) (also p ps) (Memᴰ.tail m) =
        insert-among x y (arranged key last xs) p (every-arranged key last P xs ps) (Memᴰ.tail (arranged-among xs ps m))
    arranged-among {x = x} [] _ x4 = elim x4 [ ]

    -- lists of the same elements are arranged as one
    pub arranged-same : (xs ys : List A) → Every P xs → Every P ys → ((x : A) → Among x xs → Among x ys) → ((y : A) → Among y ys → Among y xs)
        → arranged key last xs ≡ arranged key last ys
    arranged-same xs ys p q f g =
        ascends_same key (arranged key last xs) (arranged key last ys) (ascends_arranged key last xs) (ascends_arranged key last ys)
        (λ x m. arranged-among ys q (f x (among-arranged xs m))) (λ y m. arranged-among xs p (g y (among-arranged ys m)))

    -- and the other way round
    pub same-members : (xs ys : List A) → Every P xs → arranged key last xs ≡ arranged key last ys → (x : A) → Among x xs → Among x ys
    same-members xs ys p e x m = among-arranged ys (subst (Among x) e (arranged-among xs p m))
