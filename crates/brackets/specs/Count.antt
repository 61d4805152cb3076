-- The bracket walk in numbers, as the code keeps it: the law `agrees` ties it to the walk on trees.
use Rattle.std.specs.Prelude.{cond, List, [], ◌∷◌, ℕ, max, ◌+◌, ◌-◌, eqb, length}
use Rattle.brackets.specs.declared.scan.Phase.{Phase}
use Rattle.brackets.specs.declared.scan.Phase.TheVariants.{Going, Done, Unclosed, Trailing}
use Rattle.brackets.specs.declared.scan.Scan.{Scan}
use Rattle.brackets.specs.Token.{Token, opens, closes, atom, atom_text}

abbrev pub start : Scan
start = record { phase = Going; depth = 0; nodes = 0; text = 0; most = 0 }

abbrev pub stopped : Scan → Phase → Scan
stopped c p = record { phase = p; depth = c.depth; nodes = c.nodes; text = c.text; most = c.most }

-- whole once no bracket is open
abbrev pub phase_at : ℕ → Phase
phase_at depth = cond (eqb depth 0) Done Going

abbrev pub opened : Scan → Scan
opened c = record { phase = Going; depth = c.depth + 1; nodes = c.nodes + 1; text = c.text; most = max c.most (c.depth + 1) }

abbrev pub closed : Scan → Scan
closed c = cond (eqb c.depth 0) (stopped c Unclosed) (record { phase = phase_at (c.depth - 1); depth = c.depth - 1; nodes = c.nodes; text = c.text; most = c.most })

-- an atom whose text has so many bytes
abbrev pub added : Scan → ℕ → Scan
added c n = record { phase = phase_at c.depth; depth = c.depth; nodes = c.nodes + 1; text = c.text + n; most = c.most }

-- only a walk that goes on takes another token; one that is done refuses it
abbrev pub while : Scan → Scan → Phase → Scan
while c next Going = next
while c next Done = stopped c Trailing
while c next Unclosed = c
while c next Trailing = c

abbrev pub counts : Scan → Token → Scan
counts c opens = while c (opened c) c.phase
counts c closes = while c (closed c) c.phase
counts c (atom a) = while c (added c (length (atom_text a))) c.phase

abbrev pub counted : Scan → List Token → Scan
counted c [] = c
counted c (x ∷ xs) = counted (counts c x) xs
