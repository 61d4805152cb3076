use mathlib.Core.Path.{◌≡◌}
use lib.ListN.{length}
use Rattle.walk.proofs.Walks.{LeftAt}
use Rattle.walk.proofs.walk.walk_parts.Given as goal

abbrev pub invariant-loop : goal.invariant-loop
invariant-loop l = (length l.last ≡ length l.initial.last) × LeftAt l.form (record { sorts = l.sorts; fields = l.fields; variables = l.variables; functions = l.functions; members = l.members; names = l.names }) l.nodes l.text l.first l.count l.initial.last l.at l.counter l.last
