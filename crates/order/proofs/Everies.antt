-- What holds of every element: of parts, of a whole, as a test, and of each that stands in the list.
-- Assumes nothing.
use mathlib.Core.Path.{◌≡◌, refl, ap, sym, ◌∙◌, subst}
use mathlib.Core.Bool.{Bool, true, ◌&&◌}
use mathlib.Core.List.Memᴰ
use mathlib.Core.List.{List, [], ◌∷◌, ◌++◌, map}
use Prim.Native.Nat.{ℕ}
use Rattle.ground.specs.Lists.{all}
use Rattle.ground.proofs.Tests.{by_test}
use Rattle.order.specs.Order.{before}
use Rattle.order.specs.Every.{Every, none, also, Ascends, empty, first, Among}
use Rattle.order.proofs.Befores.{never}

module _ {A : Type 0} where
  pub every_map : (P Q : A → Type 0) → ((x : A) → P x → Q x) → (xs : List A) → Every P xs → Every Q xs
  every_map P Q f [] none = none
  every_map P Q f (x ∷ xs) (also p ps) = also (f x p) (every_map P Q f xs ps)

  pub every_append : (P : A → Type 0) (xs ys : List A) → Every P xs → Every P ys → Every P (xs ++ ys)
  every_append P [] ys none q = q
  every_append P (x ∷ xs) ys (also p ps) q = also p (every_append P xs ys ps q)

  pub every-left : (P : A → Type 0) (xs ys : List A) → Every P (xs ++ ys) → Every P xs
  every-left P [] ys q = none
  every-left P (x ∷ xs) ys (also p ps) = also p (every-left P xs ys ps)

  pub every-right : (P : A → Type 0) (xs ys : List A) → Every P (xs ++ ys) → Every P ys
  every-right P [] ys q = q
  every-right P (x ∷ xs) ys (also p ps) = every-right P xs ys ps

  pub every-head : (P : A → Type 0) (x : A) (xs : List A) → Every P (x ∷ xs) → P x
  every-head P x xs (also p ps) = p

  pub every-tail : (P : A → Type 0) (x : A) (xs : List A) → Every P (x ∷ xs) → Every P xs
  every-tail P x xs (also p ps) = ps

  pub every_one : (P : A → Type 0) → ((x : A) → P x) → (xs : List A) → Every P xs
  every_one P f [] = none
  every_one P f (x ∷ xs) = also (f x) (every_one P f xs)

  -- the same as a test
  pub all-every : (p : A → Bool) (xs : List A) → all p xs ≡ true → Every (λ x. p x ≡ true) xs
  unfolding all
  all-every p [] h = none
  all-every p (x ∷ xs) h =
      by_test (p x)
      (λ e. also e (all-every p xs (sym (ap (λ (t : Bool). t && all p xs) e) ∙ h)))
      (λ e. never (sym h ∙ ap (λ (t : Bool). t && all p xs) e))

  pub every-all : (p : A → Bool) (xs : List A) → Every (λ x. p x ≡ true) xs → all p xs ≡ true
  unfolding all
  every-all p [] none = refl
  every-all p (x ∷ xs) (also e es) = ap (λ (t : Bool). t && all p xs) e ∙ every-all p xs es

  -- the same of each that stands in the list
  pub every-among : (P : A → Type 0) (xs : List A) → Every P xs → (x : A) → Among x xs → P x
  every-among P (y ∷ xs) (also p ps) x (Memᴰ.head e) = subst P (sym e) p
  every-among P (y ∷ xs) (also p ps) x (Memᴰ.tail m) = every-among P xs ps x m
  every-among P [] _ x x5 = elim x5 [ ]

  pub among-every : (P : A → Type 0) (xs : List A) → ((x : A) → Among x xs → P x) → Every P xs
  among-every P [] f = none
  among-every P (x ∷ xs) f = also (f x (Memᴰ.head refl)) (among-every P xs (λ y m. f y (Memᴰ.tail m)))

  module _ (key : A → List ℕ) where
    pub ascends_left : (xs ys : List A) → Ascends key (xs ++ ys) → Ascends key xs
    ascends_left [] ys s = empty
    ascends_left (x ∷ xs) ys (first a s) = first (every-left (λ y. before (key x) (key y) ≡ true) xs ys a) (ascends_left xs ys s)

    pub ascends_right : (xs ys : List A) → Ascends key (xs ++ ys) → Ascends key ys
    ascends_right [] ys s = s
    ascends_right (x ∷ xs) ys (first a s) = ascends_right xs ys s

    pub ascends_head : (x : A) (xs : List A) → Ascends key (x ∷ xs) → Every (λ y. before (key x) (key y) ≡ true) xs
    ascends_head x xs (first a s) = a

    pub ascends_tail : (x : A) (xs : List A) → Ascends key (x ∷ xs) → Ascends key xs
    ascends_tail x xs (first a s) = s

    -- each of a first part is before each of a second
    pub ascends_across : (xs ys : List A) → Ascends key (xs ++ ys) → Every (λ x. Every (λ y. before (key x) (key y) ≡ true) ys) xs
    ascends_across [] ys s = none
    ascends_across (x ∷ xs) ys (first a s) = also (every-right (λ y. before (key x) (key y) ≡ true) xs ys a) (ascends_across xs ys s)

pub every-mapped : {A B : Type 0} (P : B → Type 0) (f : A → B) (xs : List A) → Every (λ x. P (f x)) xs → Every P (map f xs)
every-mapped P f [] none = none
every-mapped P f (x ∷ xs) (also p ps) = also p (every-mapped P f xs ps)
