use Prim.Native.Nat.{◌*◌, ◌+◌, ◌≤◌}
use lib.ListN.{length}
use mathlib.Core.Path.{◌≡◌}
use Rattle.value_text.proofs.Fields.{LeftAt}
use Rattle.value_text.proofs.value.+write_fields_write_inside_write_members_write_value.Given as goal

abbrev pub decreases-write_fields : goal.decreases-write_fields
decreases-write_fields l = 6 * l.allow + 2

abbrev pub decreases-write_inside : goal.decreases-write_inside
decreases-write_inside l = 6 * l.allow + 1

abbrev pub decreases-write_members : goal.decreases-write_members
decreases-write_members l = 6 * l.below + 2

abbrev pub decreases-write_value : goal.decreases-write_value
decreases-write_value l = 6 * l.allow

abbrev pub invariant-write_fields-loop-i : goal.invariant-write_fields-loop-i
invariant-write_fields-loop-i l = (l.i ≤ l.count) × (length l.scratch ≡ length l.initial.scratch) × (length l.out ≡ length l.initial.out) × LeftAt l.sorts l.members l.names l.nodes l.text l.first l.count l.allow l.initial.out l.place l.out l.to l.at l.i
