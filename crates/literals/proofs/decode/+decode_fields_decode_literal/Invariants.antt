use Prim.Native.Nat.{◌*◌, ◌+◌, ◌-◌, ◌≤◌}
use Rattle.literals.proofs.Walks.{LeftAt}
use Rattle.literals.proofs.decode.+decode_fields_decode_literal.Given as goal

abbrev pub decreases-decode_fields : goal.decreases-decode_fields
decreases-decode_fields l = 2 * l.allow + 1

abbrev pub decreases-decode_literal : goal.decreases-decode_literal
decreases-decode_literal l = 2 * l.allow

abbrev pub invariant-decode_fields-loop-i : goal.invariant-decode_fields-loop-i
invariant-decode_fields-loop-i l = (l.i ≤ l.count) × LeftAt l.sorts l.fields l.members l.names l.nodes l.text l.row l.node l.first l.count l.allow l.place l.total l.i

abbrev pub decreases-decode_fields-loop-i : goal.decreases-decode_fields-loop-i
decreases-decode_fields-loop-i l = l.count - l.i
