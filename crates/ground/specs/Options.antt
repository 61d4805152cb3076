use Rattle.std.specs.Prelude.{None, Option, Some}

-- Things that may be missing, as the definitions of document 01's tables' text and of demand 3 use them.

-- what a rule makes of a thing, if it is there
abbrev pub over : {A B : Type 0} → Option A → (A → Option B) → Option B
over None rule = None
over (Some x) rule = rule x
