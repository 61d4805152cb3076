-- Bytes among a list pass what the whole list passes; a run of such bytes ends where the standard ends an atom.
-- Assumes nothing.
use mathlib.Core.Path.{◌≡◌, refl, ap, ◌∙◌}
use mathlib.Core.Bool.{Bool, true, not, false≢true}
use mathlib.Core.List.{List, [], ◌∷◌, ◌++◌}
use Prim.Native.Nat.{ℕ, ◌+◌}
use native.Mathlib.Omega.{arith}
use lib.Dec.{eqb}
use lib.ListN.{length}
use borrow.Author.Tests.{eqb-true, not-true}
use Rattle.ground.proofs.Tests.{by_test, both_left, both_right}
use Rattle.lexicon.specs.Span.{span_by}
use Rattle.ground.specs.Lists.{all}
use Rattle.standard.specs.Bytes.{among, enders}
use Rattle.standard.specs.Written.{ended}

pub pass : (test : ℕ → Bool) (xs : List ℕ) (b : ℕ) → all test xs ≡ true → among xs b ≡ true → test b ≡ true
unfolding among all
pass test [] b h k = absurd (false≢true k)
pass test (x ∷ xs) b h k =
    by_test (eqb b x)
    (λ e. ap test (eqb-true b x e) ∙ both_left (test x) (all test xs) h)
    (λ e. pass test xs b (both_right (test x) (all test xs) h) (rw e at k))

pub all-by : (test other : ℕ → Bool) → ((b : ℕ) → test b ≡ true → other b ≡ true) → (s : List ℕ) → all test s ≡ true → all other s ≡ true
unfolding all
all-by test other f [] h = refl
all-by test other f (b ∷ bs) h =
    rw (f b (both_left (test b) (all test bs) h)) (all-by test other f bs (both_right (test b) (all test bs) h))

pub all_append : (test : ℕ → Bool) (xs ys : List ℕ) → all test xs ≡ true → all test ys ≡ true → all test (xs ++ ys) ≡ true
unfolding all
all_append test [] ys p q = q
all_append test (x ∷ xs) ys p q = rw (both_left (test x) (all test xs) p) (all_append test xs ys (both_right (test x) (all test xs) p) q)

pub pass_all : (test : ℕ → Bool) (xs s : List ℕ) → all test xs ≡ true → all (among xs) s ≡ true → all test s ≡ true
pass_all test xs s h k = all-by (among xs) test (λ b. pass test xs b h) s k

-- a run goes as far as its bytes pass
pub span_over : (test : ℕ → Bool) (xs s : List ℕ) → all test xs ≡ true → span_by test (xs ++ s) ≡ length xs + span_by test s
unfolding all span_by
span_over test [] s h = omega arith
span_over test (x ∷ xs) s h =
    rw (both_left (test x) (all test xs) h) (omega (arith, span_over test xs s (both_right (test x) (all test xs) h)))

-- and stops at what ends an atom
span_ended : (test : ℕ → Bool) (s : List ℕ) → all (λ b. not (test b)) enders ≡ true → ended s ≡ true → span_by test s ≡ 0
unfolding span_by
span_ended test [] h k = refl
span_ended test (b ∷ bs) h k = rw (not-true (test b) (pass (λ b. not (test b)) enders b h k))

pub span_run : (test : ℕ → Bool) (xs s : List ℕ) → all test xs ≡ true → all (λ b. not (test b)) enders ≡ true → ended s ≡ true
    → span_by test (xs ++ s) ≡ length xs
span_run test xs s h k e = omega (arith, span_over test xs s h, span_ended test s k e)
