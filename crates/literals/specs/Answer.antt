-- Document 01, "Sorts and literals" and "The listing": what reading a literal answers: its row, how long its text is with repeats
-- kept, and whether it is a set; or the refusal.
use Rattle.std.specs.Prelude.{◌≡◌, Bool, true, false, List, ℕ, min, length, None, Option, Some, Err, Ok, Result}
use Rattle.tables.specs.declared.sort.Wanted.{Wanted}
use Rattle.tables.specs.Layout.{Lent, tables_of}
use Rattle.tables.specs.View.{sort_wanted}
use Rattle.values.specs.Text.{text}
use Rattle.values.specs.Value.{Value}
use Rattle.values.specs.Holds.{held}
use Rattle.means.specs.Literal.{Lit, lit_of}
use Rattle.literals.specs.declared.answer.Literal.{Literal}
use Rattle.refusals.specs.declared.Refusal.{Refusal}

-- as far as a word counts; no literal of an arena goes so far
abbrev pub capped : ℕ → ℕ
capped n = min n 18446744073709551615

abbrev pub need : Value → ℕ
need v = capped (length (text v))

abbrev pub some? : {A : Type 0} → Option A → Bool
some? None = false
some? (Some a) = true

abbrev pub answer : Result Lit Refusal → Result Literal Refusal
answer (Ok l) = (Ok (record { row = l.row; need = need l.value; is_set = some? (held l.value) }))
answer (Err r) = Err r

-- a value of a sort without a name, of which the text's length and whether it is a set are known
abbrev pub ValueOf : List ℕ → Wanted → ℕ → Bool → Result Literal Refusal → Type 0
ValueOf sorts wanted long set r =
    (l : Lent) → l.sorts ≡ sorts → (v : Value) → long ≡ need v → set ≡ some? (held v) → r ≡ answer (lit_of (tables_of l) (sort_wanted wanted) v)
