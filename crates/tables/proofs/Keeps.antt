-- Kept words, group by group.
-- Assumes nothing.
use mathlib.Core.Path.{◌≡◌, refl, sym, ap, ◌∙◌}
use mathlib.Core.Bool.{Bool, true, false, ◌||◌}
use mathlib.Core.List.{List, [], ◌∷◌, ◌++◌}
use Prim.Native.Nat.{ℕ}
use Rattle.ground.specs.Lists.{any}
use Rattle.ground.proofs.Tests.{by_test}
use Rattle.arena.specs.Text.{same_text}
use Rattle.tables.specs.Kept.{core_words, literal_words, sort_words, kept_words, kept}

any_append : (test : List ℕ → Bool) (a b : List (List ℕ)) → any test (a ++ b) ≡ (any test a || any test b)
unfolding any
any_append test [] b = refl
any_append test (x ∷ a) b = by_test (test x) (λ h. rw h refl) (λ h. rw h (any_append test a b))

module _ (name : List ℕ) (core literal sort : Bool) (c : core ≡ any (same_text name) core_words) where
  groups : kept name ≡ (any (same_text name) core_words || (any (same_text name) literal_words || any (same_text name) sort_words))
  unfolding kept kept_words
  groups =
      any_append (same_text name) core_words (literal_words ++ sort_words)
      ∙ ap (λ (t : Bool). any (same_text name) core_words || t) (any_append (same_text name) literal_words sort_words)

  pub kept_core : core ≡ true → true ≡ kept name
  kept_core h = rw (groups, sym c, h)

  module _ (h : core ≡ false) (l : literal ≡ any (same_text name) literal_words) where
    pub kept-literal : literal ≡ true → true ≡ kept name
    kept-literal g = rw (groups, sym c, h, sym l, g)

    pub kept-sort : literal ≡ false → sort ≡ any (same_text name) sort_words → sort ≡ kept name
    kept-sort g s = rw (groups, sym c, h, sym l, g) s
