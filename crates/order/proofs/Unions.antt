-- Unions: parts may be arranged before, and where one key has one element, they may be joined in either order, and with themselves.
-- Assumes nothing.
use mathlib.Core.Path.{◌≡◌, refl, ap, sym, ◌∙◌}
use mathlib.Core.Bool.{Bool, true, false, cond}
use mathlib.Core.List.{List, [], ◌∷◌, ◌++◌}
use Prim.Native.Nat.{ℕ}
use Rattle.order.specs.Order.{insert, arranged}
use Rattle.order.specs.Merge.{inserts}
use Rattle.order.proofs.Befores.{by-order-of}
use Rattle.order.proofs.Inserts.{insert-again, insert-swap, inserts-append, inserts-arranged, arranged-append}
use Rattle.order.proofs.Arranges.{arranged-again}

module _ {A : Type 0} (key : A → List ℕ) (last : Bool) where
  pub union_left : (xs ys : List A) → arranged key last (arranged key last xs ++ ys) ≡ arranged key last (xs ++ ys)
  union_left xs ys =
      arranged-append key last (arranged key last xs) ys
      ∙ ap (λ (l : List A). inserts key last l (arranged key last ys)) (arranged-again key last xs)
      ∙ sym (arranged-append key last xs ys)

  pub union_right : (xs ys : List A) → arranged key last (xs ++ arranged key last ys) ≡ arranged key last (xs ++ ys)
  union_right xs ys =
      arranged-append key last xs (arranged key last ys)
      ∙ ap (inserts key last (arranged key last xs)) (arranged-again key last ys)
      ∙ sym (arranged-append key last xs ys)

  module _ (same : (a b : A) → key a ≡ key b → a ≡ b) where
    insert-either : (a b : A) (zs : List A) → insert key last a (insert key last b zs) ≡ insert key last b (insert key last a zs)
    insert-either a b zs =
        by-order-of (key a) (key b)
        (λ h. insert-swap key last a b zs h)
        (λ h. let e : a ≡ b = same a b h in ap (λ (c : A). insert key last c (insert key last b zs)) e ∙ ap (λ (c : A). insert key last b (insert key last c zs)) (sym e))
        (λ h. sym (insert-swap key last b a zs h))

    insert-inserts : (a : A) (us zs : List A) → insert key last a (inserts key last us zs) ≡ inserts key last us (insert key last a zs)
    unfolding inserts
    insert-inserts a [] zs = refl
    insert-inserts a (u ∷ us) zs = insert-either a u (inserts key last us zs) ∙ ap (insert key last u) (insert-inserts a us zs)

    inserts-either : (us bs zs : List A) → inserts key last us (inserts key last bs zs) ≡ inserts key last bs (inserts key last us zs)
    unfolding inserts
    inserts-either [] bs zs = refl
    inserts-either (u ∷ us) bs zs = ap (insert key last u) (inserts-either us bs zs) ∙ insert-inserts u bs (inserts key last us zs)

    pub union-either : (xs ys : List A) → arranged key last (xs ++ ys) ≡ arranged key last (ys ++ xs)
    union-either xs ys =
        sym (inserts-arranged key last (xs ++ ys)) ∙ inserts-append key last xs ys [] ∙ inserts-either xs ys []
        ∙ sym (inserts-append key last ys xs []) ∙ inserts-arranged key last (ys ++ xs)

    choice : (t : Bool) (l : List A) → cond t l l ≡ l
    choice true l = refl
    choice false l = refl

    inserts-twice : (xs zs : List A) → inserts key last xs (inserts key last xs zs) ≡ inserts key last xs zs
    unfolding inserts
    inserts-twice [] zs = refl
    inserts-twice (x ∷ xs) zs =
        ap (insert key last x) (sym (insert-inserts x xs (inserts key last xs zs)))
        ∙ insert-again key last x x (inserts key last xs (inserts key last xs zs)) refl
        ∙ choice last (insert key last x (inserts key last xs (inserts key last xs zs)))
        ∙ ap (insert key last x) (inserts-twice xs zs)

    pub union-same : (xs : List A) → arranged key last (xs ++ xs) ≡ arranged key last xs
    union-same xs = sym (inserts-arranged key last (xs ++ xs)) ∙ inserts-append key last xs xs [] ∙ inserts-twice xs [] ∙ inserts-arranged key last xs
