-- Any two results that a public call's contract allows are equal.
-- Assumes nothing.
use Rattle.std.specs.Prelude.{⊤}
use Rattle.std.proofs.Common.{Option, Result}
use mathlib.Core.Path.{◌≡◌, refl, sym, ◌∙◌}
use mathlib.Core.List.{List, []}
use Prim.Native.Nat.{ℕ}
use Rattle.ground.proofs.Tests.{one-result}
use Rattle.tables.specs.declared.row.Range.{Range}
use Rattle.tables.specs.Sort.{Sort}
use Rattle.tables.specs.Layout.{Lent}
use Rattle.tables.specs.Range.{Clamps}
use Rattle.tables.specs.Lookup.{FindsVariable, FindsFunction, FindsMember, FindsSort, FindsNamed}
use Rattle.tables.specs.Check.{checked}
use Rattle.refusals.specs.declared.Refusal.{Refusal}

pub one-check : (l : Lent) (r s : Result ⊤ Refusal) → r ≡ checked l → s ≡ checked l → r ≡ s
one-check l r s p q = one-result p q

range_eq : (a b x y : ℕ) → a ≡ x → b ≡ y → ◌≡◌ {A = Range} (record { start = a; end = b }) (record { start = x; end = y })
range_eq a b x y p q = rw (p, q) refl

pub one_range : (first size most : ℕ) (r s : Range) → Clamps first size most r → Clamps first size most s → r ≡ s
one_range first size most r s p q = range_eq r.start r.end s.start s.end (p.begins ∙ sym q.begins) (p.ends ∙ sym q.ends)

-- some tables with these rows and names
abbrev lent : List ℕ → List ℕ → List ℕ → List ℕ → List ℕ → Lent
lent sorts variables functions members names = record { sorts = sorts; fields = []; variables = variables; functions = functions; members = members; names = names }

module _ (ws names name : List ℕ) (r s : Option ℕ) where
  pub one-variable : FindsVariable ws names name r → FindsVariable ws names name s → r ≡ s
  one-variable p q = one-result (p (lent [] ws [] [] names) refl refl) (q (lent [] ws [] [] names) refl refl)

  pub one_function : FindsFunction ws names name r → FindsFunction ws names name s → r ≡ s
  one_function p q = one-result (p (lent [] [] ws [] names) refl refl) (q (lent [] [] ws [] names) refl refl)

  pub one-member : FindsMember ws names name r → FindsMember ws names name s → r ≡ s
  one-member p q = one-result (p (lent [] [] [] ws names) refl refl) (q (lent [] [] [] ws names) refl refl)

  pub one-named : FindsNamed ws names name r → FindsNamed ws names name s → r ≡ s
  one-named p q = one-result (p (lent ws [] [] [] names) refl refl) (q (lent ws [] [] [] names) refl refl)

pub one-sort : (ws : List ℕ) (wanted : Sort) (r s : Option ℕ) → FindsSort ws wanted r → FindsSort ws wanted s → r ≡ s
one-sort ws wanted r s p q = one-result (p (lent ws [] [] [] []) refl) (q (lent ws [] [] [] []) refl)
