-- Document 01, "Sorts and literals" and "The listing": what one field of a record answers, and how long a record's text is.
use Rattle.std.specs.Prelude.{cond, ℕ, ◌+◌, ◌-◌, eqb, Err, Ok, Result}
use Rattle.refusals.specs.declared.Refusal.TheVariants.{UnmatchedFieldType}
use Rattle.decimals.specs.Decimal.{digit_count}
use Rattle.literals.specs.Answer.{capped}
use Rattle.literals.specs.declared.answer.Literal.{Literal}
use Rattle.refusals.specs.declared.Refusal.{Refusal}

-- 17 where the field's row is another
abbrev pub field_answer : Result Literal Refusal → ℕ → Result ℕ Refusal
field_answer (Ok it) wanted = cond (eqb it.row wanted) (Ok it.need) (Err UnmatchedFieldType)
field_answer (Err r) wanted = Err r

-- `r`, the row, `(`, the fields with a comma between two, `)`; each field is counted with one byte more
abbrev pub record_need : ℕ → ℕ → ℕ
record_need row total = capped (digit_count row + (total - 1) + 3)
