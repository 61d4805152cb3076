-- A sort without a name, found by its kind and its number.
-- Assumes nothing.
use Rattle.std.proofs.Common.{None, Option}
use mathlib.Core.Path.{◌≡◌, refl, sym, ap, ◌∙◌}
use mathlib.Core.Bool.{Bool, cond, ◌&&◌}
use mathlib.Core.List.{List, []}
use Prim.Native.Nat.{ℕ, suc, ◌≤◌}
use native.Mathlib.Omega.{arith}
use lib.Dec.{leb}
use borrow.Author.Tests.{le-leb, lt-leb}
use Rattle.ground.proofs.Tests.{one-result, by_order, and-false}
use Rattle.tables.specs.Layout.{Lent, tables_of, sort_of}
use Rattle.tables.specs.Find.{found, sort_row}
use Rattle.tables.specs.Lookup.{FindsSort}
use Rattle.stazzumpi.specs.Kind.{FindsKind}

module _ (sorts : List ℕ) (kind number : ℕ) where
  pub one-kind : (r s : Option ℕ) → FindsKind sorts kind number r → FindsKind sorts kind number s → r ≡ s
  one-kind r s p q =
      let l : Lent = record { sorts = sorts; fields = []; variables = []; functions = []; members = []; names = [] } in
      one-result (p l refl) (q l refl)

  pub kind-found : (k : ℕ) → kind ≡ k → 1 ≤ k → k ≤ 8 → (r : Option ℕ) → FindsSort sorts (sort_of k [] number []) r → FindsKind sorts kind number r
  kind-found k e low high r f l g =
      f l g
      ∙ ap (λ (b : Bool). found (cond b (sort_row (tables_of l) (sort_of k [] number [])) None)) (sym (ap (λ (b : Bool). b && leb k 8) (le-leb 1 k low) ∙ le-leb k 8 high))
      ∙ ap (λ (n : ℕ). found (cond (leb 1 n && leb n 8) (sort_row (tables_of l) (sort_of n [] number [])) None)) (sym e)

  above : (k : ℕ) → k ≤ kind → (kind ≡ k → ⊥) → suc k ≤ kind
  above k h other = omega (arith, other)

  pub kind-none : (kind ≡ 1 → ⊥) → (kind ≡ 2 → ⊥) → (kind ≡ 3 → ⊥) → (kind ≡ 4 → ⊥) → (kind ≡ 5 → ⊥) → (kind ≡ 6 → ⊥) → (kind ≡ 7 → ⊥) → (kind ≡ 8 → ⊥) → FindsKind sorts kind number None
  kind-none h1 h2 h3 h4 h5 h6 h7 h8 l g =
      ap (λ (b : Bool). found (cond b (sort_row (tables_of l) (sort_of kind [] number [])) None))
      (sym
      (by_order kind 1
      (λ h. ap (λ (b : Bool). b && leb kind 8) (lt-leb 1 kind h))
      (λ h.
      ap (λ (b : Bool). leb 1 kind && b) (lt-leb kind 8 (above 8 (above 7 (above 6 (above 5 (above 4 (above 3 (above 2 (above 1 h h1) h2) h3) h4) h5) h6) h7) h8))
      ∙ and-false (leb 1 kind))))
