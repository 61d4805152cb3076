-- A plan that is a whole literal, or its refusal.
-- Assumes nothing.
use Rattle.std.proofs.Common.{Option, Err, Ok, Result}
use mathlib.Core.Path.{◌≡◌, subst}
use mathlib.Core.List.{List}
use Prim.Native.Nat.{ℕ}
use Rattle.refusals.specs.declared.Refusal.{Refusal}
use Rattle.tables.specs.Sort.{Tables}
use Rattle.literals.specs.declared.plan.Plan.{Plan}
use Rattle.means.specs.Literal.{Lit}
use Rattle.literals.specs.Answer.{answer}
use Rattle.literals.specs.Plan.{Means}
use Rattle.literals.specs.declared.answer.Literal.{Literal}

abbrev pub done : Result Literal Refusal → Result Plan Refusal
done (Ok a) = Ok (Plan.Done a)
done (Err r) = Err r

module _ (T : Tables) (fields ws ts : List ℕ) (expected : Option ℕ) (below : ℕ) (m : Result Lit Refusal) where
  done_so : (a : Result Literal Refusal) → a ≡ answer m → Means T fields ws ts expected below (done a) m
  done_so (Ok a) e = e
  done_so (Err r) e = e

  pub done_means : (a : Result Literal Refusal) (p : Result Plan Refusal) → done a ≡ p → a ≡ answer m → Means T fields ws ts expected below p m
  done_means a p d e = subst (λ (x : Result Plan Refusal). Means T fields ws ts expected below x m) d (done_so a e)
