use Rattle.std.proofs.Common.{not}
use mathlib.Core.Path.{ap, ◌∙◌}
use Rattle.tables.proofs.Answers.{and_no, and_yes}
use mathlib.Core.List.{List}
use Prim.Native.Nat.{ℕ}
use Rattle.tables.specs.Rules.{name_right}
use Rattle.tables.proofs.Ranges.{clamps_name}
use Rattle.tables.proofs.Rights.{inside-name}
use Rattle.tables.proofs.rules.is_name.Goals as goal

pub returns-then-not-is_inside : goal.returns-then-not-is_inside
returns-then-not-is_inside c = let a = c.args in and_no _ _ _ (inside-name a.names.now a.rows.now a.row _ _ _ c.word-first.ensures c.word-size.ensures c.is_inside.ensures) (ap not c.if-not-is_inside.true)

pub returns : goal.returns
returns c = let a = c.args in and_yes _ _ _ (inside-name a.names.now a.rows.now a.row _ _ _ c.word-first.ensures c.word-size.ensures c.is_inside.ensures) (ap not c.if-not-is_inside.false) _ (c.is_right.ensures ∙ ap (λ (s : List ℕ). name_right s) (clamps_name a.names.now a.rows.now a.row _ _ _ c.word-first.ensures c.word-size.ensures c.clamp-range.ensures))
