-- Document 01, "Numbers given back": a refusal as one word, its number in the low byte and its detail in the seven bytes above.
-- The detail is told exactly where it is below 2 ^ 56, as every need of these calls is.
use Rattle.std.specs.Prelude.{ℕ, ◌+◌, ◌*◌, ◌%◌, ◌^◌}
use Rattle.refusals.specs.declared.Refusal.{Refusal}
use Rattle.refusals.specs.Number.{number_of, detail_of}

unfoldable pub code_of : Refusal → ℕ
code_of why = number_of why + 256 * (detail_of why % 2 ^ 56)
