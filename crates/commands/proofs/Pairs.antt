-- One law for each way out of the matching of a pair.
-- Assumes nothing.
use Rattle.std.proofs.Common.{None, Option, Some}
use mathlib.Core.Path.{◌≡◌, refl, subst}
use mathlib.Core.List.{List}
use Prim.Native.Nat.{ℕ, ◌+◌}
use native.Mathlib.Omega.{arith}
use Rattle.arena.specs.Node.{after_at}
use Rattle.arena.specs.Tree.{Tree, Trees, nil, cons}
use Rattle.shapes.specs.Shows.{StandingAll, WordAt, PartsAt}
use Rattle.shapes.proofs.Stood.{first_of, second-of}
use Rattle.shapes.proofs.Seen.{not-word, by_word, not-list, by-list}
use Rattle.shapes.proofs.Arms.{not-symbol, not-app}
use Rattle.commands.specs.Pair.{two, pair}
use Rattle.commands.specs.PairShows.{PairShows, PairAt, TwoAt}
use Rattle.commands.specs.declared.pair.NamedPair.{NamedPair}
use Rattle.shapes.specs.declared.look.Word.{Word}

-- the two parts
module _ (ws : List ℕ) (first : ℕ) (w : Option Word) (h : WordAt ws first w) where
  pub two_none : w ≡ None → TwoAt ws first None
  two_none e ts a t s = not-symbol a _ _ (not-word ws first w h ts e a (first_of ws ts a (cons t nil) first 2 s))

  pub two-word : (size offset : ℕ) → w ≡ Some (record { size = size; offset = offset }) → (second : ℕ) → second ≡ after_at ws first → TwoAt ws first (Some (record { size = size; offset = offset; second = second }))
  two-word size offset e second here ts a t s =
      by_word ws first w h ts size offset e (λ (x : Tree). PairShows ws ts (Some (record { size = size; offset = offset; second = second })) (two (cons x (cons t nil))))
      (λ name r. (name, t, refl, r, second-of ws ts first second here a t s)) a (first_of ws ts a (cons t nil) first 2 s)

-- the list
module _ (ws : List ℕ) (i : ℕ) (l : Option ℕ) (h : PartsAt ws i l) where
  pub pair-atom : l ≡ None → PairAt ws i None
  pair-atom e ts t s = not-app t _ _ (not-list ws i l h e ts t s)

  module _ (many : ℕ) (e : l ≡ Some many) where
    not-two : (ts : List ℕ) (us : Trees) → (many ≡ 2 → ⊥) → StandingAll us ws ts (i + 1) many → two us ≡ None
    not-two ts nil z s = refl
    not-two ts (cons x nil) z s = refl
    not-two ts (cons x (cons a nil)) z s = absurd (z s.many-are)
    not-two ts (cons x (cons a (cons u us))) z s = refl

    pub pair_parts : (many ≡ 2 → ⊥) → PairAt ws i None
    pair_parts z ts t s = by-list ws i l h many e ts (λ (x : Tree). pair x ≡ None) (λ us g. not-two ts us z g) t s

    both : (f : Option NamedPair) (ts : List ℕ) (us : Trees) → many ≡ 2 → TwoAt ws (i + 1) f → StandingAll us ws ts (i + 1) many → PairShows ws ts f (two us)
    both f ts nil z k s = let c = s.many-are in absurd (omega arith)
    both f ts (cons x nil) z k s = let c = s.many-are in absurd (omega arith)
    both f ts (cons x (cons a nil)) z k s = k ts x a (subst (λ (n : ℕ). StandingAll (cons x (cons a nil)) ws ts (i + 1) n) z s)
    both f ts (cons x (cons a (cons u us))) z k s = let c = s.many-are in absurd (omega arith)

    pub pair-two : many ≡ 2 → (f : Option NamedPair) → TwoAt ws (i + 1) f → PairAt ws i f
    pair-two z f k ts t s = by-list ws i l h many e ts (λ (x : Tree). PairShows ws ts f (pair x)) (λ us g. both f ts us z k g) t s
