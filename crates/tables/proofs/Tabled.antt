-- The rows of a table, each tested for one thing and then for another.
-- Assumes nothing.
use mathlib.Core.Path.{◌≡◌, refl, sym, ap, ◌∙◌}
use mathlib.Core.Bool.{Bool, true, false, ◌&&◌, and_assoc}
use mathlib.Core.List.{List}
use Prim.Native.Nat.{ℕ}
use Rattle.tables.specs.Layout.{count}
use Rattle.tables.specs.Search.{every_row}
use Rattle.tables.specs.Right.{sized, table_passes}
use Rattle.tables.proofs.Searches.{every-both}

abbrev pub both : (ℕ → Bool) → (ℕ → Bool) → ℕ → Bool
both right alone = λ i. right i && alone i

module _ (ws : List ℕ) (right alone : ℕ → Bool) where
  table-both : (table_passes ws right && every_row alone 0 (count ws)) ≡ table_passes ws (both right alone)
  table-both =
      and_assoc (sized ws) (every_row right 0 (count ws)) (every_row alone 0 (count ws))
      ∙ ap (λ (t : Bool). sized ws && t) (sym (every-both (both right alone) right alone (λ i. refl) 0 (count ws)))

  module _ (r : Bool) (e : r ≡ table_passes ws right) where
    pub table-fails : r ≡ false → r ≡ table_passes ws (both right alone)
    table-fails h = h ∙ ap (λ (t : Bool). t && every_row alone 0 (count ws)) (sym h ∙ e) ∙ table-both

    pub table-rest : r ≡ true → (s : Bool) → s ≡ every_row alone 0 (count ws) → s ≡ table_passes ws (both right alone)
    table-rest h s q = q ∙ ap (λ (t : Bool). t && every_row alone 0 (count ws)) (sym h ∙ e) ∙ table-both
