-- One more put among elements, and a whole list of them.
-- Assumes nothing.
use mathlib.Core.Path.{◌≡◌, refl, ap, sym, ◌∙◌, subst}
use mathlib.Core.Bool.{Bool, true, false, cond}
use mathlib.Core.List.{List, [], ◌∷◌, ◌++◌}
use Prim.Native.Nat.{ℕ}
use Rattle.ground.proofs.Tests.{by_cond}
use Rattle.order.specs.Order.{before, insert, arranged}
use Rattle.order.specs.Merge.{inserts}
use Rattle.order.proofs.Befores.{before_irreflexive, before_transitive, before_asymmetric, by-order-of}

module _ {A : Type 0} (key : A → List ℕ) (last : Bool) where
  pub insert-here : (x y : A) (ys : List A) → before (key x) (key y) ≡ true → insert key last x (y ∷ ys) ≡ x ∷ y ∷ ys
  unfolding insert
  insert-here x y ys e = ap (λ (t : Bool). cond t (x ∷ y ∷ ys) (cond (before (key y) (key x)) (y ∷ insert key last x ys) (cond last (y ∷ ys) (x ∷ ys)))) e

  pub insert-past : (x y : A) (ys : List A) → before (key y) (key x) ≡ true → insert key last x (y ∷ ys) ≡ y ∷ insert key last x ys
  unfolding insert
  insert-past x y ys e =
      ap (λ (t : Bool). cond t (x ∷ y ∷ ys) (cond (before (key y) (key x)) (y ∷ insert key last x ys) (cond last (y ∷ ys) (x ∷ ys)))) (before_asymmetric (key y) (key x) e)
      ∙ ap (λ (t : Bool). cond t (y ∷ insert key last x ys) (cond last (y ∷ ys) (x ∷ ys))) e

  pub insert-same : (x y : A) (ys : List A) → key x ≡ key y → insert key last x (y ∷ ys) ≡ cond last (y ∷ ys) (x ∷ ys)
  unfolding insert
  insert-same x y ys e =
      ap (λ (t : Bool). cond t (x ∷ y ∷ ys) (cond (before (key y) (key x)) (y ∷ insert key last x ys) (cond last (y ∷ ys) (x ∷ ys)))) (ap (λ (k : List ℕ). before k (key y)) e ∙ before_irreflexive (key y))
      ∙ ap (λ (t : Bool). cond t (y ∷ insert key last x ys) (cond last (y ∷ ys) (x ∷ ys))) (ap (λ (k : List ℕ). before (key y) k) e ∙ before_irreflexive (key y))

  cond-cons : (t : Bool) (z : A) (xs ys : List A) → z ∷ cond t xs ys ≡ cond t (z ∷ xs) (z ∷ ys)
  cond-cons true z xs ys = refl
  cond-cons false z xs ys = refl

  cond-two : (t : Bool) (xs ys xs' ys' : List A) → xs ≡ xs' → ys ≡ ys' → cond t xs ys ≡ cond t xs' ys'
  cond-two true xs ys xs' ys' p q = p
  cond-two false xs ys xs' ys' p q = q

  cond-deep : (t : Bool) (xs ys zs : List A) → cond t xs (cond t ys zs) ≡ cond t xs zs
  cond-deep true xs ys zs = refl
  cond-deep false xs ys zs = refl

  cond_far : (t : Bool) (xs ys zs : List A) → cond t (cond t xs ys) zs ≡ cond t xs zs
  cond_far true xs ys zs = refl
  cond_far false xs ys zs = refl

  insert-cond : (a : A) (t : Bool) (xs ys : List A) → insert key last a (cond t xs ys) ≡ cond t (insert key last a xs) (insert key last a ys)
  insert-cond a true xs ys = refl
  insert-cond a false xs ys = refl

  pub insert-none : (a : A) → insert key last a [] ≡ a ∷ []
  unfolding insert
  insert-none a = refl

  -- what holds of each outcome holds of what was put in
  pub by-insert : (P : List A → Type 0) (x y : A) (ys : List A) → (before (key x) (key y) ≡ true → P (x ∷ y ∷ ys))
      → (key x ≡ key y → P (y ∷ ys)) → (key x ≡ key y → P (x ∷ ys)) → (before (key y) (key x) ≡ true → P (y ∷ insert key last x ys)) → P (insert key last x (y ∷ ys))
  by-insert P x y ys here kept put past =
      by-order-of (key x) (key y)
      (λ e. subst P (sym (insert-here x y ys e)) (here e))
      (λ e. subst P (sym (insert-same x y ys e)) (by_cond P last (y ∷ ys) (x ∷ ys) (λ _. kept e) (λ _. put e)))
      (λ e. subst P (sym (insert-past x y ys e)) (past e))

  -- of two with one key, put in one after the other, one stays
  pub insert-again : (a b : A) (zs : List A) → key a ≡ key b → insert key last a (insert key last b zs) ≡ cond last (insert key last b zs) (insert key last a zs)
  insert-again a b [] e =
      ap (insert key last a) (insert-none b) ∙ insert-same a b [] e
      ∙ cond-two last (b ∷ []) (a ∷ []) (insert key last b []) (insert key last a []) (sym (insert-none b)) (sym (insert-none a))
  insert-again a b (z ∷ zs) e =
      by-order-of (key b) (key z)
      (λ h. ap (insert key last a) (insert-here b z zs h) ∙ insert-same a b (z ∷ zs) e
      ∙ cond-two last (b ∷ z ∷ zs) (a ∷ z ∷ zs) (insert key last b (z ∷ zs)) (insert key last a (z ∷ zs)) (sym (insert-here b z zs h)) (sym (insert-here a z zs (ap (λ (k : List ℕ). before k (key z)) e ∙ h))))
      (λ h. ap (insert key last a) (insert-same b z zs h) ∙ insert-cond a last (z ∷ zs) (b ∷ zs)
      ∙ cond-two last (insert key last a (z ∷ zs)) (insert key last a (b ∷ zs)) (cond last (z ∷ zs) (a ∷ zs)) (cond last (b ∷ zs) (a ∷ zs)) (insert-same a z zs (e ∙ h)) (insert-same a b zs e)
      ∙ cond_far last (z ∷ zs) (a ∷ zs) (cond last (b ∷ zs) (a ∷ zs)) ∙ cond-deep last (z ∷ zs) (b ∷ zs) (a ∷ zs)
      ∙ sym (cond-two last (insert key last b (z ∷ zs)) (insert key last a (z ∷ zs)) (cond last (z ∷ zs) (b ∷ zs)) (cond last (z ∷ zs) (a ∷ zs)) (insert-same b z zs h) (insert-same a z zs (e ∙ h))
      ∙ cond_far last (z ∷ zs) (b ∷ zs) (cond last (z ∷ zs) (a ∷ zs)) ∙ cond-deep last (z ∷ zs) (z ∷ zs) (a ∷ zs)))
      (λ h. let g : before (key z) (key a) ≡ true = ap (λ (k : List ℕ). before (key z) k) e ∙ h in
      ap (insert key last a) (insert-past b z zs h) ∙ insert-past a z (insert key last b zs) g ∙ ap (λ (l : List A). z ∷ l) (insert-again a b zs e)
      ∙ cond-cons last z (insert key last b zs) (insert key last a zs)
      ∙ cond-two last (z ∷ insert key last b zs) (z ∷ insert key last a zs) (insert key last b (z ∷ zs)) (insert key last a (z ∷ zs)) (sym (insert-past b z zs h)) (sym (insert-past a z zs g)))

  -- two of different keys may be put in either order
  pub insert-swap : (a b : A) (zs : List A) → before (key a) (key b) ≡ true → insert key last a (insert key last b zs) ≡ insert key last b (insert key last a zs)
  insert-swap a b [] h =
      ap (insert key last a) (insert-none b) ∙ insert-here a b [] h
      ∙ sym (ap (insert key last b) (insert-none a) ∙ insert-past b a [] h ∙ ap (λ (l : List A). a ∷ l) (insert-none b))
  insert-swap a b (z ∷ zs) h =
      by-order-of (key b) (key z)
      (λ e. let f : before (key a) (key z) ≡ true = before_transitive (key a) (key b) (key z) h e in
      ap (insert key last a) (insert-here b z zs e) ∙ insert-here a b (z ∷ zs) h
      ∙ sym (ap (insert key last b) (insert-here a z zs f) ∙ insert-past b a (z ∷ zs) h ∙ ap (λ (l : List A). a ∷ l) (insert-here b z zs e)))
      (λ e. let f : before (key a) (key z) ≡ true = sym (ap (λ (k : List ℕ). before (key a) k) e) ∙ h in
      ap (insert key last a) (insert-same b z zs e) ∙ insert-cond a last (z ∷ zs) (b ∷ zs)
      ∙ cond-two last (insert key last a (z ∷ zs)) (insert key last a (b ∷ zs)) (a ∷ z ∷ zs) (a ∷ b ∷ zs) (insert-here a z zs f) (insert-here a b zs h)
      ∙ sym (cond-cons last a (z ∷ zs) (b ∷ zs))
      ∙ sym (ap (insert key last b) (insert-here a z zs f) ∙ insert-past b a (z ∷ zs) h ∙ ap (λ (l : List A). a ∷ l) (insert-same b z zs e)))
      (λ e. ap (insert key last a) (insert-past b z zs e)
      ∙ by-order-of (key a) (key z)
      (λ f. insert-here a z (insert key last b zs) f
      ∙ sym (ap (insert key last b) (insert-here a z zs f) ∙ insert-past b a (z ∷ zs) h ∙ ap (λ (l : List A). a ∷ l) (insert-past b z zs e)))
      (λ f. insert-same a z (insert key last b zs) f
      ∙ sym (ap (insert key last b) (insert-same a z zs f) ∙ insert-cond b last (z ∷ zs) (a ∷ zs)
      ∙ cond-two last (insert key last b (z ∷ zs)) (insert key last b (a ∷ zs)) (z ∷ insert key last b zs) (a ∷ insert key last b zs) (insert-past b z zs e) (insert-past b a zs h)))
      (λ f. insert-past a z (insert key last b zs) f ∙ ap (λ (l : List A). z ∷ l) (insert-swap a b zs h)
      ∙ sym (ap (insert key last b) (insert-past a z zs f) ∙ insert-past b z (insert key last a zs) e)))

  pub inserts-append : (us bs cs : List A) → inserts key last (us ++ bs) cs ≡ inserts key last us (inserts key last bs cs)
  unfolding inserts
  inserts-append [] bs cs = refl
  inserts-append (a ∷ us) bs cs = ap (insert key last a) (inserts-append us bs cs)

  insert-choice : (t : Bool) (u a : A) (us bs : List A) → inserts key last (cond t (u ∷ us) (a ∷ us)) bs ≡ cond t (insert key last u (inserts key last us bs)) (insert key last a (inserts key last us bs))
  unfolding inserts
  insert-choice true u a us bs = refl
  insert-choice false u a us bs = refl

  -- one put among those that are to be put
  pub inserts-insert : (a : A) (us bs : List A) → inserts key last (insert key last a us) bs ≡ insert key last a (inserts key last us bs)
  unfolding inserts
  inserts-insert a [] bs = ap (λ (l : List A). inserts key last l bs) (insert-none a)
  inserts-insert a (u ∷ us) bs =
      by-order-of (key a) (key u)
      (λ e. ap (λ (l : List A). inserts key last l bs) (insert-here a u us e))
      (λ e. ap (λ (l : List A). inserts key last l bs) (insert-same a u us e) ∙ insert-choice last u a us bs ∙ sym (insert-again a u (inserts key last us bs) e))
      (λ e. ap (λ (l : List A). inserts key last l bs) (insert-past a u us e) ∙ ap (insert key last u) (inserts-insert a us bs) ∙ insert-swap u a (inserts key last us bs) e)

  pub inserts-inserts : (us bs cs : List A) → inserts key last (inserts key last us bs) cs ≡ inserts key last us (inserts key last bs cs)
  unfolding inserts
  inserts-inserts [] bs cs = refl
  inserts-inserts (a ∷ us) bs cs = inserts-insert a (inserts key last us bs) cs ∙ ap (insert key last a) (inserts-inserts us bs cs)

  pub inserts-arranged : (us : List A) → inserts key last us [] ≡ arranged key last us
  unfolding inserts arranged
  inserts-arranged [] = refl
  inserts-arranged (a ∷ us) = ap (insert key last a) (inserts-arranged us)

  -- what is arranged of two parts is the one part's put among the other's
  pub arranged-append : (us bs : List A) → arranged key last (us ++ bs) ≡ inserts key last (arranged key last us) (arranged key last bs)
  unfolding inserts
  arranged-append us bs =
      sym (inserts-arranged (us ++ bs)) ∙ inserts-append us bs [] ∙ sym (inserts-inserts us [] (inserts key last bs []))
      ∙ ap (λ (l : List A). inserts key last l (inserts key last bs [])) (inserts-arranged us) ∙ ap (inserts key last (arranged key last us)) (inserts-arranged bs)
