-- Lists that the definitions of document 01's lines and tables are made of.
use Rattle.std.specs.Prelude.{Bool, true, false, cond, ◌&&◌, ◌||◌, not, List, [], ◌∷◌, ◌++◌, ℕ, zero, suc, None, Option, Some}

-- the parts one after the other, with the separator between two
unfoldable pub joined : List ℕ → List (List ℕ) → List ℕ
joined separator [] = []
joined separator (part ∷ []) = part
joined separator (part ∷ next ∷ parts) = part ++ (separator ++ joined separator (next ∷ parts))

-- some element passes the test
unfoldable pub any {ℓ} : {A : Type ℓ} → (A → Bool) → List A → Bool
any test [] = false
any test (x ∷ xs) = test x || any test xs

-- every element passes the test
unfoldable pub all {ℓ} : {A : Type ℓ} → (A → Bool) → List A → Bool
all test [] = true
all test (x ∷ xs) = test x && all test xs

-- no two elements are the same
unfoldable pub distinct {ℓ} : {A : Type ℓ} → (A → A → Bool) → List A → Bool
distinct same [] = true
distinct same (x ∷ xs) = not (any (same x) xs) && distinct same xs

-- the number of an element after a first one
abbrev pub up : Option ℕ → Option ℕ
up None = None
up (Some i) = Some (suc i)

-- the place of the first element that passes the test, counted from 0
unfoldable pub find {ℓ} : {A : Type ℓ} → (A → Bool) → List A → Option ℕ
find test [] = None
find test (x ∷ xs) = cond (test x) (Some zero) (up (find test xs))

-- the element at a place, if there is one
unfoldable pub at : {A : Type 0} → List A → ℕ → Option A
at [] i = None
at (x ∷ xs) zero = Some x
at (x ∷ xs) (suc i) = at xs i

-- what a rule makes of the numbers from the first on, so many of them
unfoldable pub tabulate {ℓ} : {A : Type ℓ} → (ℕ → A) → ℕ → ℕ → List A
tabulate f first zero = []
tabulate f first (suc n) = f first ∷ tabulate f (suc first) n
