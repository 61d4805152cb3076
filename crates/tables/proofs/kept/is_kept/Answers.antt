use Rattle.std.proofs.Common.{rules, tests}
use mathlib.Core.Path.{sym, ◌∙◌}
use Rattle.tables.proofs.Keeps.{kept_core, kept-literal, kept-sort}
use mathlib.Core.Bool.{true}
use Rattle.tables.proofs.kept.is_kept.Goals.{then-is_core, else-is_core}
use Rattle.tables.proofs.kept.is_kept.Goals as goal

pub returns-then-is_literal : goal.returns-then-is_literal
returns-then-is_literal c =
    let a = c.args in
    elim c.if-is_core.branch [
      | then-is_core w ↦ w.value-is ∙ w.if-is_core.true ∙ kept_core a.name.now c.is_core.result true true c.is_core.ensures w.if-is_core.true
      | else-is_core w ↦ c.if-is_literal.true ∙ kept-literal a.name.now c.is_core.result _ true c.is_core.ensures w.if-is_core.false w.is_literal.ensures (sym w.value-is ∙ c.if-is_literal.true)
    ]

pub returns-else-is_literal : goal.returns-else-is_literal
returns-else-is_literal c =
    let a = c.args in
    elim c.if-is_core.branch [
      | then-is_core w ↦ search (rules, tests)
      | else-is_core w ↦ kept-sort a.name.now c.is_core.result _ _ c.is_core.ensures w.if-is_core.false w.is_literal.ensures (sym w.value-is ∙ c.if-is_literal.false) c.is_sort_word.ensures
    ]
