-- A test that every element passes, of lists put together.
-- Assumes nothing.
use mathlib.Core.Path.{◌≡◌, refl}
use mathlib.Core.Bool.{Bool, true}
use mathlib.Core.List.{List, [], ◌∷◌, ◌++◌}
use Prim.Native.Nat.{ℕ}
use Rattle.ground.specs.Lists.{all, joined}
use Rattle.ground.proofs.Tests.{both_left, both_right}
use Rattle.order.proofs.Everies.{every_map, every_append, all-every, every-all}

module _ {A : Type 0} (test : A → Bool) where
  pub all_append : (xs ys : List A) → all test xs ≡ true → all test ys ≡ true → all test (xs ++ ys) ≡ true
  all_append xs ys p q = every-all test (xs ++ ys) (every_append (λ x. test x ≡ true) xs ys (all-every test xs p) (all-every test ys q))

  pub all-by : (other : A → Bool) → ((x : A) → test x ≡ true → other x ≡ true) → (xs : List A) → all test xs ≡ true → all other xs ≡ true
  all-by other f xs p = every-all other xs (every_map (λ x. test x ≡ true) (λ x. other x ≡ true) f xs (all-every test xs p))

pub all-joined : (test : ℕ → Bool) (separator : List ℕ) (parts : List (List ℕ)) → all test separator ≡ true → all (λ p. all test p) parts ≡ true →
    all test (joined separator parts) ≡ true
unfolding all joined
all-joined test separator [] p q = refl
all-joined test separator (part ∷ []) p q = both_left (all test part) true q
all-joined test separator (part ∷ next ∷ parts) p q =
    all_append test part (separator ++ joined separator (next ∷ parts)) (both_left (all test part) _ q)
    (all_append test separator (joined separator (next ∷ parts)) p (all-joined test separator (next ∷ parts) p (both_right (all test part) _ q)))
