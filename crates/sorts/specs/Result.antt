-- Document 01, "Numbers given back": an answer, or a refusal; the first refusal on the way is the answer.
use Rattle.std.specs.Prelude.{Bool, cond, None, Option, Some, Err, Ok, Result}
use Rattle.refusals.specs.declared.Refusal.{Refusal}

infixr 20 ◌>>=◌
-- what comes next, of an answer
unfoldable pub ◌>>=◌ : {A B : Type 0} → Result A Refusal → (A → Result B Refusal) → Result B Refusal
◌>>=◌ (Ok a) f = f a
◌>>=◌ (Err r) f = Err r

-- on, where the test passes; else the refusal
unfoldable pub unless : {A : Type 0} → Bool → Refusal → Result A Refusal → Result A Refusal
unless test r next = cond test next (Err r)

-- what was found; else the refusal
abbrev pub found : {A : Type 0} → Refusal → Option A → Result A Refusal
found r None = Err r
found r (Some a) = Ok a
