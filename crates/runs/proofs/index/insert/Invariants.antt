use mathlib.Core.Path.{◌≡◌}
use lib.ListN.{length}
use Rattle.runs.specs.Pair.{pairs}
use Rattle.runs.proofs.Finds.{Shifting}
use Rattle.runs.proofs.index.insert.Given as goal

abbrev pub invariant-loop-i : goal.invariant-loop-i
invariant-loop-i l = (length l.index ≡ length l.initial.index) × Shifting (pairs l.initial.index) l.at l.n l.p (pairs l.index) l.i l.carried
