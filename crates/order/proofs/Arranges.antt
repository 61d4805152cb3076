-- What is arranged ascends, has only elements of the list, and stays if it is arranged again; a map that keeps the keys' order keeps it, and keys that are one arrange as one.
-- Assumes nothing.
use mathlib.Core.Path.{◌≡◌, refl, ap, sym, ◌∙◌, subst}
use mathlib.Core.Bool.{Bool, true, false, cond}
use mathlib.Core.List.{List, [], ◌∷◌, map, map-id}
use Prim.Native.Nat.{ℕ}
use Rattle.ground.specs.Lists.{all}
use Rattle.order.specs.Order.{before, insert, arranged}
use Rattle.order.specs.Every.{Every, none, also, Ascends, empty, first}
use Rattle.order.specs.Merge.{inserts}
use Rattle.order.proofs.Befores.{before_transitive}
use Rattle.order.proofs.Everies.{every_map, every_one, all-every, every-all}
use Rattle.order.proofs.Inserts.{insert-here, insert-none, by-insert}

module _ {A : Type 0} (key : A → List ℕ) (last : Bool) where
  pub every-insert : (P : A → Type 0) (x : A) (ys : List A) → P x → Every P ys → Every P (insert key last x ys)
  every-insert P x [] p none = subst (Every P) (sym (insert-none key last x)) (also p none)
  every-insert P x (y ∷ ys) p (also q qs) =
      by-insert key last (Every P) x y ys (λ e. also p (also q qs)) (λ e. also q qs) (λ e. also p qs) (λ e. also q (every-insert P x ys p qs))

  pub every-inserts : (P : A → Type 0) (us bs : List A) → Every P us → Every P bs → Every P (inserts key last us bs)
  unfolding inserts
  every-inserts P [] bs p q = q
  every-inserts P (u ∷ us) bs (also p ps) q = every-insert P u (inserts key last us bs) p (every-inserts P us bs ps q)

  -- what holds of every element of a list holds of all that is arranged of it
  pub every-arranged : (P : A → Type 0) (xs : List A) → Every P xs → Every P (arranged key last xs)
  unfolding arranged
  every-arranged P [] none = none
  every-arranged P (x ∷ xs) (also p ps) = every-insert P x (arranged key last xs) p (every-arranged P xs ps)

  pub all-arranged : (p : A → Bool) (xs : List A) → all p xs ≡ true → all p (arranged key last xs) ≡ true
  all-arranged p xs h = every-all p (arranged key last xs) (every-arranged (λ x. p x ≡ true) xs (all-every p xs h))

  -- an element before the first is before all
  pub first-before : (x y : A) (ys : List A) → before (key x) (key y) ≡ true → Every (λ z. before (key y) (key z) ≡ true) ys → Every (λ z. before (key x) (key z) ≡ true) (y ∷ ys)
  first-before x y ys e h = also e (every_map (λ z. before (key y) (key z) ≡ true) (λ z. before (key x) (key z) ≡ true) (λ z f. before_transitive (key x) (key y) (key z) e f) ys h)

  pub ascends_insert : (x : A) (ys : List A) → Ascends key ys → Ascends key (insert key last x ys)
  ascends_insert x [] s = subst (Ascends key) (sym (insert-none key last x)) (first none empty)
  ascends_insert x (y ∷ ys) (first a s) =
      by-insert key last (Ascends key) x y ys
      (λ e. first (first-before x y ys e a) (first a s))
      (λ e. first a s)
      (λ e. first (subst (λ (k : List ℕ). Every (λ z. before k (key z) ≡ true) ys) (sym e) a) s)
      (λ e. first (every-insert (λ z. before (key y) (key z) ≡ true) x ys e a) (ascends_insert x ys s))

  pub ascends_inserts : (us bs : List A) → Ascends key bs → Ascends key (inserts key last us bs)
  unfolding inserts
  ascends_inserts [] bs s = s
  ascends_inserts (u ∷ us) bs s = ascends_insert u (inserts key last us bs) (ascends_inserts us bs s)

  -- what is arranged ascends strictly
  pub ascends_arranged : (xs : List A) → Ascends key (arranged key last xs)
  unfolding arranged
  ascends_arranged [] = empty
  ascends_arranged (x ∷ xs) = ascends_insert x (arranged key last xs) (ascends_arranged xs)

  pub insert-first : (a : A) (zs : List A) → Every (λ z. before (key a) (key z) ≡ true) zs → insert key last a zs ≡ a ∷ zs
  insert-first a [] none = insert-none key last a
  insert-first a (z ∷ zs) (also e h) = insert-here key last a z zs e

  -- what ascends is arranged already
  pub arranged-ascending : (xs : List A) → Ascends key xs → arranged key last xs ≡ xs
  unfolding arranged
  arranged-ascending [] s = refl
  arranged-ascending (x ∷ xs) (first a s) = ap (insert key last x) (arranged-ascending xs s) ∙ insert-first x xs a

  pub arranged-again : (xs : List A) → arranged key last (arranged key last xs) ≡ arranged key last xs
  arranged-again xs = arranged-ascending (arranged key last xs) (ascends_arranged xs)

-- a map under which the keys stand as before
module _ {A B : Type 0} (key : A → List ℕ) (key' : B → List ℕ) (f : A → B) (last : Bool) where
  pub record Alike (x y : A) : Type 0 where
    pub one : before (key' (f x)) (key' (f y)) ≡ before (key x) (key y)
    pub other : before (key' (f y)) (key' (f x)) ≡ before (key y) (key x)

  map-choice : (t : Bool) (x y : A) (ys : List A) → map f (cond t (y ∷ ys) (x ∷ ys)) ≡ cond t (f y ∷ map f ys) (f x ∷ map f ys)
  map-choice true x y ys = refl
  map-choice false x y ys = refl

  map-insert : (x : A) (ys : List A) → Every (Alike x) ys → map f (insert key last x ys) ≡ insert key' last (f x) (map f ys)
  unfolding insert
  map-insert x [] none = refl
  map-insert x (y ∷ ys) (also p ps) =
      ap₃ (before (key x) (key y)) (before (key y) (key x)) (map-insert x ys ps)
      ∙ ap (λ (t : Bool). cond t (f x ∷ f y ∷ map f ys) (cond (before (key y) (key x)) (f y ∷ insert key' last (f x) (map f ys)) (cond last (f y ∷ map f ys) (f x ∷ map f ys)))) (sym p.one)
      ∙ ap (λ (t : Bool). cond (before (key' (f x)) (key' (f y))) (f x ∷ f y ∷ map f ys) (cond t (f y ∷ insert key' last (f x) (map f ys)) (cond last (f y ∷ map f ys) (f x ∷ map f ys)))) (sym p.other)
    where
      ap₃ : (s t : Bool) → map f (insert key last x ys) ≡ insert key' last (f x) (map f ys)
          → map f (cond s (x ∷ y ∷ ys) (cond t (y ∷ insert key last x ys) (cond last (y ∷ ys) (x ∷ ys))))
          ≡ cond s (f x ∷ f y ∷ map f ys) (cond t (f y ∷ insert key' last (f x) (map f ys)) (cond last (f y ∷ map f ys) (f x ∷ map f ys)))
      ap₃ true t e = refl
      ap₃ false true e = ap (λ (l : List B). f y ∷ l) e
      ap₃ false false e = map-choice last x y ys

  -- each element stands to each later one as before
  pub data AllAlike : List A → Type 0 where
    nothing : AllAlike []
    one_more : {x : A} {xs : List A} → Every (Alike x) xs → AllAlike xs → AllAlike (x ∷ xs)

  pub map-arranged : (xs : List A) → AllAlike xs → map f (arranged key last xs) ≡ arranged key' last (map f xs)
  unfolding arranged
  map-arranged [] nothing = refl
  map-arranged (x ∷ xs) (one_more p ps) =
      map-insert x (arranged key last xs) (every-arranged key last (Alike x) xs p) ∙ ap (insert key' last (f x)) (map-arranged xs ps)

  -- the same where each element's key stands for its image's
  pub map_keys : (xs : List A) → ((x : A) → key' (f x) ≡ key x) → map f (arranged key last xs) ≡ arranged key' last (map f xs)
  map_keys xs e = map-arranged xs (go xs)
    where
      alike : (x y : A) → Alike x y
      alike x y = record {
        one = ap (λ (k : List ℕ). before k (key' (f y))) (e x) ∙ ap (λ (k : List ℕ). before (key x) k) (e y);
        other = ap (λ (k : List ℕ). before k (key' (f x))) (e y) ∙ ap (λ (k : List ℕ). before (key y) k) (e x);
      }

      go : (ys : List A) → AllAlike ys
      go [] = nothing
      go (y ∷ ys) = one_more (every_one (Alike y) (alike y) ys) (go ys)

  -- the same where the map keeps the order of all pairs of the list's elements
  pub map-order : (P : A → Type 0) → ((x y : A) → P x → P y → before (key' (f x)) (key' (f y)) ≡ before (key x) (key y))
      → (xs : List A) → Every P xs → map f (arranged key last xs) ≡ arranged key' last (map f xs)
  map-order P g xs h = map-arranged xs (go xs h)
    where
      every : (x : A) → P x → (ys : List A) → Every P ys → Every (Alike x) ys
      every x p ys q = every_map P (Alike x) (λ y p'. record { one = g x y p p'; other = g y x p' p }) ys q

      go : (ys : List A) → Every P ys → AllAlike ys
      go [] none = nothing
      go (y ∷ ys) (also p ps) = one_more (every y p ys ps) (go ys ps)

-- keys that are one on the elements arrange them as one
pub arranged-by : {A : Type 0} (key key' : A → List ℕ) (last : Bool) (xs : List A) → Every (λ x. key x ≡ key' x) xs → arranged key last xs ≡ arranged key' last xs
arranged-by key key' last xs h =
    sym (map-id (arranged key last xs))
    ∙ map-order key key' (λ x. x) last (λ x. key x ≡ key' x) (λ x y p q. rw (p, q) refl) xs h
    ∙ ap (arranged key' last) (map-id xs)
