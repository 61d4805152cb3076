use mathlib.Core.Path.{ap, ◌∙◌}
use Rattle.tables.proofs.Ranges.{clamps_name}
use mathlib.Core.Path.{ap, ◌∙◌}
use mathlib.Core.List.{List}
use Prim.Native.Nat.{ℕ}
use Rattle.arena.specs.Text.{same_text}
use Rattle.tables.proofs.find.is_named.Goals as goal

pub returns : goal.returns
returns c = let a = c.args in c.same.ensures ∙ ap (λ (s : List ℕ). same_text a.name.now s) (clamps_name a.names.now a.rows.now a.row _ _ _ c.word.ensures c.word-2.ensures c.clamp-range.ensures)
