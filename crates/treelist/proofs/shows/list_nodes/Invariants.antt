use Rattle.std.proofs.Common.{◌≡◌, ◌≤◌, length}
use Rattle.treelist.proofs.shows.list_nodes.Given as goal

abbrev pub invariant-loop-at : goal.invariant-loop-at
invariant-loop-at l = (l.end ≤ length l.initial.line) × (length l.line ≡ length l.initial.line)
