-- One field, and the length of a record's text.
-- Assumes nothing.
use Rattle.std.proofs.Common.{Err, Ok, Result}
use mathlib.Core.Path.{◌≡◌, sym}
use mathlib.Core.List.{List}
use Prim.Native.Nat.{ℕ, ◌+◌, ◌-◌, ◌≤◌}
use native.Mathlib.Omega.{arith}
use lib.ListN.{length, get_or, get_or-eq_default}
use borrow.Author.Tests.{eq-eqb, ne_eqb}
use Rattle.refusals.specs.declared.Refusal.{Refusal}
use Rattle.refusals.specs.declared.Refusal.TheVariants.{UnmatchedFieldType}
use Rattle.decimals.specs.Decimal.{digit_count}
use Rattle.literals.specs.Answer.{capped}
use Rattle.literals.specs.Field.{field_answer, record_need}
use Rattle.literals.specs.declared.answer.Literal.{Literal}

module _ (a : Result Literal Refusal) (it : Literal) (wanted : ℕ) (e : a ≡ Ok it) where
  pub field-other : (it.row ≡ wanted → ⊥) → Err UnmatchedFieldType ≡ field_answer a wanted
  field-other h = rw (e, ne_eqb it.row wanted h)

  pub field-takes : it.row ≡ wanted → Ok it.need ≡ field_answer a wanted
  field-takes h = rw (e, eq-eqb it.row wanted h)

pub field-refused : (a : Result Literal Refusal) (r : Refusal) (wanted : ℕ) → a ≡ Err r → Err r ≡ field_answer a wanted
field-refused a r wanted e = rw e

module _ (row frame total : ℕ) (e : frame ≡ digit_count row + 3) (few : digit_count row ≤ 40) where
  pub record_none : total ≡ 0 → frame ≡ record_need row total
  record_none z = omega arith

  pub record_some : (total ≡ 0 → ⊥) → (r : ℕ) → r ≡ capped (total - 1 + frame) → r ≡ record_need row total
  record_some h r k = omega arith

pub no_field : (fields : List ℕ) (first i : ℕ) → length fields ≤ first + i → 0 ≡ get_or fields (first + i) 0
no_field fields first i h = sym (get_or-eq_default fields 0 (omega arith))
