-- Two ascending lists made one: at their first elements, in parts, and where one is before the other.
-- Assumes nothing.
use mathlib.Core.Path.{◌≡◌, refl, ap, sym, ◌∙◌, subst}
use mathlib.Core.Bool.{Bool, true, false, cond}
use mathlib.Core.List.{List, [], ◌∷◌, ◌++◌}
use Prim.Native.Nat.{ℕ}
use Rattle.order.specs.Order.{before, insert}
use Rattle.order.specs.Every.{Every, none, also, Ascends}
use Rattle.order.specs.Merge.{inserts}
use Rattle.order.proofs.Befores.{by-order-of}
use Rattle.order.proofs.Everies.{every_map, every_one, every-head, ascends_left, ascends_right, ascends_head, ascends_tail, ascends_across}
use Rattle.order.proofs.Inserts.{insert-here, insert-past, insert-same, insert-none, inserts-append, inserts-arranged}
use Rattle.order.proofs.Arranges.{every-inserts, insert-first, first-before, arranged-ascending}

module _ {A : Type 0} (key : A → List ℕ) (last : Bool) where
  -- before all of a list
  abbrev pub Under : A → List A → Type 0
  Under x ys = Every (λ y. before (key x) (key y) ≡ true) ys

  -- after all of a list
  abbrev pub Over : A → List A → Type 0
  Over x ys = Every (λ y. before (key y) (key x) ≡ true) ys

  insert-under : (a : A) (ws zs : List A) → Under a zs → insert key last a (ws ++ zs) ≡ insert key last a ws ++ zs
  insert-under a [] zs h = insert-first key last a zs h ∙ sym (ap (λ (l : List A). l ++ zs) (insert-none key last a))
  insert-under a (w ∷ ws) zs h =
      by-order-of (key a) (key w)
      (λ e. insert-here key last a w (ws ++ zs) e ∙ sym (ap (λ (l : List A). l ++ zs) (insert-here key last a w ws e)))
      (λ e. insert-same key last a w (ws ++ zs) e ∙ choice last ∙ sym (ap (λ (l : List A). l ++ zs) (insert-same key last a w ws e)))
      (λ e. insert-past key last a w (ws ++ zs) e ∙ ap (λ (l : List A). w ∷ l) (insert-under a ws zs h) ∙ sym (ap (λ (l : List A). l ++ zs) (insert-past key last a w ws e)))
    where
      choice : (t : Bool) → cond t (w ∷ (ws ++ zs)) (a ∷ (ws ++ zs)) ≡ cond t (w ∷ ws) (a ∷ ws) ++ zs
      choice true = refl
      choice false = refl

  inserts-under : (us ws zs : List A) → Every (λ a. Under a zs) us → inserts key last us (ws ++ zs) ≡ inserts key last us ws ++ zs
  unfolding inserts
  inserts-under [] ws zs h = refl
  inserts-under (u ∷ us) ws zs (also a h) = ap (insert key last u) (inserts-under us ws zs h) ∙ insert-under u (inserts key last us ws) zs a

  insert-over : (a : A) (ws zs : List A) → Over a ws → insert key last a (ws ++ zs) ≡ ws ++ insert key last a zs
  insert-over a [] zs h = refl
  insert-over a (w ∷ ws) zs (also e h) = insert-past key last a w (ws ++ zs) e ∙ ap (λ (l : List A). w ∷ l) (insert-over a ws zs h)

  inserts-over : (us ws zs : List A) → Every (λ a. Over a ws) us → inserts key last us (ws ++ zs) ≡ ws ++ inserts key last us zs
  unfolding inserts
  inserts-over [] ws zs h = refl
  inserts-over (u ∷ us) ws zs (also a h) = ap (insert key last u) (inserts-over us ws zs h) ∙ insert-over u ws (inserts key last us zs) a

  pub inserts-none : (us : List A) → Ascends key us → inserts key last us [] ≡ us
  inserts-none us s = inserts-arranged key last us ∙ arranged-ascending key last us s

  -- nothing is to be done where the one list is before the other
  pub inserts-below : (us zs : List A) → Ascends key us → Every (λ u. Under u zs) us → inserts key last us zs ≡ us ++ zs
  inserts-below us zs s h = inserts-under us [] zs h ∙ ap (λ (l : List A). l ++ zs) (inserts-none us s)

  -- the law of a merge in two parts: nothing of the first parts is to go behind anything of the second ones
  pub inserts-parts : (us vs bs cs : List A) → Ascends key (us ++ vs) → Every (λ u. Under u cs) us → Every (λ v. Over v bs) vs
      → inserts key last (us ++ vs) (bs ++ cs) ≡ inserts key last us bs ++ inserts key last vs cs
  inserts-parts us vs bs cs s low high =
      inserts-append key last us vs (bs ++ cs)
      ∙ ap (inserts key last us) (inserts-over vs bs cs high)
      ∙ inserts-under us bs (inserts key last vs cs) (both us low (ascends_across key us vs s))
    where
      both : (ws : List A) → Every (λ u. Under u cs) ws → Every (λ u. Under u vs) ws → Every (λ u. Under u (inserts key last vs cs)) ws
      both [] none none = none
      both (w ∷ ws) (also p ps) (also q qs) = also (every-inserts key last (λ y. before (key w) (key y) ≡ true) vs cs q p) (both ws ps qs)

  over-all : (b a : A) (us : List A) → before (key b) (key a) ≡ true → Under a us → Every (λ u. Over u (b ∷ [])) (a ∷ us)
  over-all b a us e h =
      every_map (λ u. before (key b) (key u) ≡ true) (λ u. Over u (b ∷ [])) (λ u f. also f none) (a ∷ us) (first-before key last b a us e h)

  over-same : (b a : A) (us : List A) → key a ≡ key b → Under a us → Every (λ u. Over u (b ∷ [])) us
  over-same b a us e h = every_map (λ u. before (key a) (key u) ≡ true) (λ u. Over u (b ∷ [])) (λ u f. also (subst (λ (k : List ℕ). before k (key u) ≡ true) e f) none) us h

  module _ (a b : A) (us bs : List A) (sa : Ascends key (a ∷ us)) (sb : Ascends key (b ∷ bs)) where
    -- the first elements of two lists: which of them comes first, or which goes
    pub merge-first : before (key a) (key b) ≡ true → inserts key last (a ∷ us) (b ∷ bs) ≡ a ∷ inserts key last us (b ∷ bs)
    unfolding inserts
    merge-first e =
        insert-first key last a (inserts key last us (b ∷ bs))
        (every-inserts key last (λ y. before (key a) (key y) ≡ true) us (b ∷ bs) (ascends_head key a us sa) (first-before key last a b bs e (ascends_head key b bs sb)))

    pub merge-second : before (key b) (key a) ≡ true → inserts key last (a ∷ us) (b ∷ bs) ≡ b ∷ inserts key last (a ∷ us) bs
    merge-second e = inserts-over (a ∷ us) (b ∷ []) bs (over-all b a us e (ascends_head key a us sa))

    merge-met : key a ≡ key b → inserts key last (a ∷ us) (b ∷ bs) ≡ cond last (b ∷ inserts key last us bs) (a ∷ inserts key last us bs)
    unfolding inserts
    merge-met e = ap (insert key last a) (inserts-over us (b ∷ []) bs (over-same b a us e (ascends_head key a us sa))) ∙ insert-same key last a b (inserts key last us bs) e

    pub merge-later : key a ≡ key b → last ≡ true → inserts key last (a ∷ us) (b ∷ bs) ≡ inserts key last us (b ∷ bs)
    merge-later e t =
        merge-met e ∙ ap (λ (t : Bool). cond t (b ∷ inserts key last us bs) (a ∷ inserts key last us bs)) t
        ∙ sym (inserts-over us (b ∷ []) bs (over-same b a us e (ascends_head key a us sa)))

    pub merge-earlier : key a ≡ key b → last ≡ false → inserts key last (a ∷ us) (b ∷ bs) ≡ inserts key last (a ∷ us) bs
    unfolding inserts
    merge-earlier e t =
        merge-met e ∙ ap (λ (t : Bool). cond t (b ∷ inserts key last us bs) (a ∷ inserts key last us bs)) t
        ∙ sym (insert-first key last a (inserts key last us bs)
        (every-inserts key last (λ y. before (key a) (key y) ≡ true) us bs (ascends_head key a us sa)
        (subst (λ (k : List ℕ). Every (λ y. before k (key y) ≡ true) bs) (sym e) (ascends_head key b bs sb))))

  -- lists that meet in one key: the last of the one and the first of the other
  module _ (us bs : List A) (x y : A) (su : Ascends key (us ++ (x ∷ []))) (sb : Ascends key (y ∷ bs)) (e : key x ≡ key y) where
    meets : inserts key last (us ++ (x ∷ [])) (y ∷ bs) ≡ inserts key last us (cond last (y ∷ bs) (x ∷ bs))
    unfolding inserts
    meets = inserts-append key last us (x ∷ []) (y ∷ bs) ∙ ap (inserts key last us) (insert-same key last x y bs e)

    below : (z : A) → key x ≡ key z → Every (λ u. Under u (z ∷ bs)) us
    below z f =
        every_map (λ u. Under u (x ∷ [])) (λ u. Under u (z ∷ bs))
        (λ u g. let h : before (key u) (key z) ≡ true = subst (λ (k : List ℕ). before (key u) k ≡ true) f (every-head (λ w. before (key u) (key w) ≡ true) x [] g) in
        first-before key last u z bs h (subst (λ (k : List ℕ). Every (λ w. before k (key w) ≡ true) bs) (sym e ∙ f) (ascends_head key y bs sb)))
        us (ascends_across key us (x ∷ []) su)

    pub meet-later : last ≡ true → inserts key last (us ++ (x ∷ [])) (y ∷ bs) ≡ us ++ (y ∷ bs)
    meet-later t =
        meets ∙ ap (λ (t : Bool). inserts key last us (cond t (y ∷ bs) (x ∷ bs))) t
        ∙ inserts-below us (y ∷ bs) (ascends_left key us (x ∷ []) su) (below y e)

    pub meet-earlier : last ≡ false → inserts key last (us ++ (x ∷ [])) (y ∷ bs) ≡ us ++ (x ∷ bs)
    meet-earlier t =
        meets ∙ ap (λ (t : Bool). inserts key last us (cond t (y ∷ bs) (x ∷ bs))) t
        ∙ inserts-below us (x ∷ bs) (ascends_left key us (x ∷ []) su) (below x refl)

  -- one more at its place behind all that are before it: new, or in place of one with its key, or left out
  module _ (fs gs : List A) (x : A) (low : Over x fs) where
    fronts : (s : Ascends key (fs ++ gs)) → inserts key last (fs ++ gs) (x ∷ []) ≡ fs ++ inserts key last gs (x ∷ [])
    fronts s =
        inserts-parts fs gs [] (x ∷ []) s (every_map (λ f. before (key f) (key x) ≡ true) (λ f. Under f (x ∷ [])) (λ f e. also e none) fs low) (every_one (λ v. Over v []) (λ v. none) gs)
        ∙ ap (λ (l : List A). l ++ inserts key last gs (x ∷ [])) (inserts-none fs (ascends_left key fs gs s))

    over-x : (zs : List A) → Under x zs → Every (λ z. Over z (x ∷ [])) zs
    over-x zs h = every_map (λ z. before (key x) (key z) ≡ true) (λ z. Over z (x ∷ [])) (λ z f. also f none) zs h

    pub place-new : Ascends key (fs ++ gs) → Under x gs → inserts key last (fs ++ gs) (x ∷ []) ≡ fs ++ (x ∷ gs)
    place-new s h =
        fronts s
        ∙ ap (λ (l : List A). fs ++ l) (inserts-over gs (x ∷ []) [] (over-x gs h) ∙ ap (λ (l : List A). x ∷ l) (inserts-none gs (ascends_right key fs gs s)))

  place-met : (fs gs : List A) (x y : A) → Over x fs → Ascends key (fs ++ (y ∷ gs)) → key y ≡ key x → inserts key last (fs ++ (y ∷ gs)) (x ∷ []) ≡ fs ++ cond last (x ∷ gs) (y ∷ gs)
  unfolding inserts
  place-met fs gs x y low s e =
      let t = ascends_right key fs (y ∷ gs) s in
      let h : Under x gs = subst (λ (k : List ℕ). Every (λ z. before k (key z) ≡ true) gs) e (ascends_head key y gs t) in
      fronts fs (y ∷ gs) x low s
      ∙ ap (λ (l : List A). fs ++ insert key last y l) (inserts-over gs (x ∷ []) [] (over-x fs gs x low gs h) ∙ ap (λ (l : List A). x ∷ l) (inserts-none gs (ascends_tail key y gs t)))
      ∙ ap (λ (l : List A). fs ++ l) (insert-same key last y x gs e)

  pub place-later : (fs gs : List A) (x y : A) → Over x fs → Ascends key (fs ++ (y ∷ gs)) → key y ≡ key x → last ≡ true → inserts key last (fs ++ (y ∷ gs)) (x ∷ []) ≡ fs ++ (x ∷ gs)
  place-later fs gs x y low s e t = place-met fs gs x y low s e ∙ ap (λ (t : Bool). fs ++ cond t (x ∷ gs) (y ∷ gs)) t

  pub place-earlier : (fs gs : List A) (x y : A) → Over x fs → Ascends key (fs ++ (y ∷ gs)) → key y ≡ key x → last ≡ false → inserts key last (fs ++ (y ∷ gs)) (x ∷ []) ≡ fs ++ (y ∷ gs)
  place-earlier fs gs x y low s e t = place-met fs gs x y low s e ∙ ap (λ (t : Bool). fs ++ cond t (x ∷ gs) (y ∷ gs)) t
