use mathlib.Core.Path.{◌≡◌}
use mathlib.Core.Bool.{◌&&◌}
use Prim.Native.Nat.{◌≤◌}
use lib.ListN.{length, drop}
use Rattle.arena.specs.Text.{same_text}
use Rattle.arena.proofs.text.all_alike.Given as goal

abbrev pub invariant-loop-i : goal.invariant-loop-i
invariant-loop-i l = (l.i ≤ length l.a) × (length l.a ≡ length l.b) × (same_text l.a l.b ≡ (l.all && same_text (drop l.i l.a) (drop l.i l.b)))
