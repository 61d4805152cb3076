use Rattle.std.proofs.Common.{◌≡◌, length}
use Rattle.replay.proofs.lines.each_line.Given as goal

abbrev pub invariant-loop : goal.invariant-loop
invariant-loop g l = goal.F-IsAlwaysCallable g l.answer × (length l.input ≡ length l.initial.input)
