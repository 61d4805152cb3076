use mathlib.Core.Path.{ap, ◌∙◌}
use mathlib.Core.List.{List}
use Prim.Native.Nat.{ℕ}
use Rattle.tables.specs.Slot.{slot_from}
use Rattle.tables.proofs.Ranges.{clamps_name}
use Rattle.tables.proofs.slot.name_slot.Goals as goal

pub returns : goal.returns
returns c = let a = c.args in c.slot_from.ensures ∙ ap (λ (s : List ℕ). slot_from a.slot s) (clamps_name a.names.now a.rows.now a.row _ _ _ c.word.ensures c.word-2.ensures c.clamp-range.ensures)
