use Rattle.arena_check.proofs.Walks.{Walked}
use Rattle.arena_check.proofs.check_arena.Given as goal

abbrev pub invariant-loop-at : goal.invariant-loop-at
invariant-loop-at l = Walked l.words l.text l.end l.from l.at
