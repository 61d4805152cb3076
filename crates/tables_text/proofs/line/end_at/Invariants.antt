use mathlib.Core.Path.{◌≡◌}
use Prim.Native.Nat.{◌+◌, ◌≤◌}
use Rattle.std.proofs.Common.{max}
use lib.ListN.{length, drop}
use Rattle.tables_text.specs.Parse.{span_to}
use Rattle.tables_text.proofs.line.end_at.Given as goal

abbrev pub invariant-loop-at : goal.invariant-loop-at
invariant-loop-at l = (l.at ≤ max l.start (length l.s)) × (l.start + span_to l.byte (drop l.start l.s) ≡ l.at + span_to l.byte (drop l.at l.s))
