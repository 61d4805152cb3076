-- Document 01, "The listing", `{a,b}` ascending by bytes without repeats: keys that ascend strictly, what holds of every element, and that an element stands in a list.
use Rattle.std.specs.Prelude.{◌≡◌, true, ℕ}
use mathlib.Core.List.{List, [], ◌∷◌, Memᴰ}
use Rattle.order.specs.Order.{before}

pub data Every {A : Type 0} (P : A → Type 0) : List A → Type 0 where
  none : Every P []
  also : {x : A} {xs : List A} → P x → Every P xs → Every P (x ∷ xs)

-- each element's key is strictly before those of all later ones
pub data Ascends {A : Type 0} (key : A → List ℕ) : List A → Type 0 where
  empty : Ascends key []
  first : {x : A} {xs : List A} → Every (λ y. before (key x) (key y) ≡ true) xs → Ascends key xs → Ascends key (x ∷ xs)

-- the element stands in the list
abbrev pub Among : {A : Type 0} → A → List A → Type 0
Among x xs = Memᴰ x xs
