-- What was looked at, said of the tree that stands there.
-- Assumes nothing.
use Rattle.std.proofs.Common.{None, Option, Some}
use mathlib.Core.Path.{◌≡◌, sym, subst}
use mathlib.Core.Bool.{true, false}
use mathlib.Core.List.{List}
use Prim.Native.Nat.{ℕ, ◌+◌, ◌/◌, ◌<◌}
use lib.ListN.{length}
use Rattle.arena.specs.Layout.{stride}
use Rattle.arena.specs.Tree.{Tree, Trees, symbol, app}
use Rattle.shapes.specs.Shape.{on_symbol, on_app}
use Rattle.shapes.specs.Shows.{Standing, StandingAll, Reads, WordAt, PartsAt}
use Rattle.shapes.specs.declared.look.Word.{Word}

module _ (ws : List ℕ) (i : ℕ) (w : Option Word) (h : WordAt ws i w) (ts : List ℕ) where
  pub not-word : w ≡ None → (a : Tree) → Standing a ws ts i → on_symbol a false (λ s. true) ≡ false
  not-word e a s = subst (λ (x : Option Word). WordAt ws i x) e h ts a s

  pub seen-word : (size offset : ℕ) → w ≡ Some (record { size = size; offset = offset }) → (a : Tree) → Standing a ws ts i → (f : List ℕ) × (a ≡ symbol f) × Reads f ts offset size
  seen-word size offset e a s = subst (λ (x : Option Word). WordAt ws i x) e h ts a s

  -- as for a symbol, so for the tree
  pub by_word : (size offset : ℕ) → w ≡ Some (record { size = size; offset = offset }) → (P : Tree → Type 0) → ((f : List ℕ) → Reads f ts offset size → P (symbol f)) → (a : Tree) → Standing a ws ts i → P a
  by_word size offset e P k a s = let g = seen-word size offset e a s in subst P (sym g.1) (k g.0 g.2)

module _ (ws : List ℕ) (i : ℕ) (p : Option ℕ) (h : PartsAt ws i p) where
  pub not-list : p ≡ None → (ts : List ℕ) (a : Tree) → Standing a ws ts i → on_app a false (λ us. true) ≡ false
  not-list e ts a s = subst (λ (x : Option ℕ). PartsAt ws i x) e h ts a s

  pub list-within : (many : ℕ) → p ≡ Some many → i < length ws / stride
  list-within many e = (subst (λ (x : Option ℕ). PartsAt ws i x) e h).0

  -- as for a list, so for the tree
  pub by-list : (many : ℕ) → p ≡ Some many → (ts : List ℕ) (P : Tree → Type 0) → ((us : Trees) → StandingAll us ws ts (i + 1) many → P (app us)) → (a : Tree) → Standing a ws ts i → P a
  by-list many e ts P k a s =
      let g = (subst (λ (x : Option ℕ). PartsAt ws i x) e h).1 ts a s in
      subst P (sym g.1) (k g.0 g.2)
