-- Document 01, "The listing": one list of elements put among another.
use Rattle.std.specs.Prelude.{Bool, List, [], ◌∷◌, ℕ}
use Rattle.order.specs.Order.{insert}

module _ {A : Type 0} (key : A → List ℕ) (last : Bool) where
  -- each of the first put into the second, the last of them first
  unfoldable pub inserts : List A → List A → List A
  inserts [] bs = bs
  inserts (a ∷ us) bs = insert key last a (inserts us bs)
