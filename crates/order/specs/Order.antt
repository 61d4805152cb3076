-- Document 01, "The listing": ascending by bytes, a prefix first, without repeats; and "The model walk", which of two arms with an equal key stays.
use Rattle.std.specs.Prelude.{Bool, true, false, cond, List, [], ◌∷◌, ℕ, ltb}

-- strictly before, by bytes, a prefix first
unfoldable pub before : List ℕ → List ℕ → Bool
before xs [] = false
before [] (y ∷ ys) = true
before (x ∷ xs) (y ∷ ys) = cond (ltb x y) true (cond (ltb y x) false (before xs ys))

module _ {A : Type 0} (key : A → List ℕ) (last : Bool) where
  -- one more in front of elements that ascend by their keys; where one has the same key, it stays if the last is to stay, and else goes
  unfoldable pub insert : A → List A → List A
  insert x [] = x ∷ []
  insert x (y ∷ ys) = cond (before (key x) (key y)) (x ∷ y ∷ ys) (cond (before (key y) (key x)) (y ∷ insert x ys) (cond last (y ∷ ys) (x ∷ ys)))

  -- ascending by keys, and of those with one key the last or the first
  unfoldable pub arranged : List A → List A
  arranged [] = []
  arranged (x ∷ xs) = insert x (arranged xs)
