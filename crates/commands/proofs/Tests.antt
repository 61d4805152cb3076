-- One law for each way out of the matching of a list of tests.
-- Assumes nothing.
use Rattle.std.proofs.Common.{None, Option, Some}
use mathlib.Core.Path.{◌≡◌, refl, sym, subst}
use mathlib.Core.Bool.{true, false}
use mathlib.Core.List.{List}
use Prim.Native.Nat.{ℕ, suc, ◌+◌, ◌-◌}
use native.Mathlib.Omega.{arith}
use Rattle.ground.specs.Bytes.{bytes}
use Rattle.arena.specs.Node.{after_at}
use Rattle.arena.specs.Text.{text_is}
use Rattle.arena.specs.Tree.{Tree, Trees, nil, cons}
use Rattle.shapes.specs.Shows.{StandingAll, WordAt, PartsAt}
use Rattle.shapes.proofs.Stood.{first_of, others-of, said-so}
use Rattle.shapes.proofs.Seen.{not-word, by_word, not-list, by-list}
use Rattle.shapes.proofs.Arms.{not-symbol, not-app}
use Rattle.commands.specs.Command.{headed_or, tests}
use Rattle.commands.specs.TestShows.{TestsShow, TestsAt}
use Rattle.commands.specs.declared.test.Disjunction.{Disjunction}
use Rattle.shapes.specs.declared.look.Word.{Word}

-- (or TEST ..)
module _ (ws ts : List ℕ) (i : ℕ) (l : Option ℕ) (h : PartsAt ws i l) where
  pub tests-atom : l ≡ None → TestsAt ws ts i None
  unfolding tests
  tests-atom e t s = not-app t _ _ (not-list ws i l h e ts t s)

  module _ (many : ℕ) (e : l ≡ Some many) where
    by_parts : (f : Option Disjunction) → ((us : Trees) → StandingAll us ws ts (i + 1) many → TestsShow ws ts f (headed_or us)) → TestsAt ws ts i f
    unfolding tests
    by_parts f k t s = by-list ws i l h many e ts (λ (x : Tree). TestsShow ws ts f (tests x)) k t s

    pub tests-empty : many ≡ 0 → TestsAt ws ts i None
    tests-empty z = by_parts None none-there
      where
        none-there : (us : Trees) → StandingAll us ws ts (i + 1) many → headed_or us ≡ None
        none-there nil s = refl
        none-there (cons a us) s = let c = s.many-are in absurd (omega arith)

    module _ (z : many ≡ 0 → ⊥) (head : ℕ) (begins : head ≡ i + 1) (w : Option Word) (m : WordAt ws head w) where
      -- it is enough to look at a head and what is behind it
      by-head : (f : Option Disjunction) → ((a : Tree) (us : Trees) → StandingAll (cons a us) ws ts head many → TestsShow ws ts f (headed_or (cons a us))) → TestsAt ws ts i f
      by-head f k = by_parts f headed
        where
          headed : (us : Trees) → StandingAll us ws ts (i + 1) many → TestsShow ws ts f (headed_or us)
          headed nil s = absurd (z s.many-are)
          headed (cons a us) s = k a us (subst (λ (n : ℕ). StandingAll (cons a us) ws ts n many) (sym begins) s)

      pub tests_headless : w ≡ None → TestsAt ws ts i None
      tests_headless q = by-head None (λ a us s. not-symbol a _ _ (not-word ws head w m ts q a (first_of ws ts a us head many s)))

      module _ (size offset : ℕ) (q : w ≡ Some (record { size = size; offset = offset })) where
        pub tests-other : text_is ts offset size (bytes "or") ≡ false → TestsAt ws ts i None
        tests-other t =
            by-head None
            (λ a us s. by_word ws head w m ts size offset q (λ (x : Tree). headed_or (cons x us) ≡ None) (λ f r. rw (said-so ts offset size f r (bytes "or") false t)) a (first_of ws ts a us head many s))

        pub tests_or : text_is ts offset size (bytes "or") ≡ true → (first : ℕ) → first ≡ after_at ws head → TestsAt ws ts i (Some (record { first = first; count = many - 1 }))
        tests_or t first here =
            by-head (Some (record { first = first; count = many - 1 }))
            (λ a us s.
            let c = s.many-are in
            let n : many ≡ suc (many - 1) = omega arith in
            by_word ws head w m ts size offset q (λ (x : Tree). TestsShow ws ts (Some (record { first = first; count = many - 1 })) (headed_or (cons x us)))
            (λ f r. (us, rw (said-so ts offset size f r (bytes "or") true t), others-of ws ts a us head many s first (many - 1) here n)) a (first_of ws ts a us head many s))
