use mathlib.Core.Path.{sym, ap, ◌∙◌}
use mathlib.Core.Bool.{Bool, ◌&&◌}
use native.Mathlib.Omega.{arith}
use lib.Dec.{ltb}
use borrow.Author.Tests.{ltb-false}
use Rattle.tables.specs.Layout.{word}
use Rattle.tables.proofs.Rights.{argument-past}
use Rattle.tables.proofs.rules.is_function.Goals as goal
use Rattle.tables.proofs.rules.is_function.Goals.{then-is_name, else-is_name}

pub returns-else-word-sorts : goal.returns-else-word-sorts
returns-else-word-sorts c =
    let a = c.args in
    c.if-word-sorts.false
    ∙ elim c.if-is_name.branch [
      | then-is_name w ↦ argument-past a.functions.now a.names.now a.sorts a.row (omega (arith, w.word.ensures, ltb-false _ _ (sym w.value-is ∙ c.if-word-sorts.false)))
      | else-is_name w ↦ sym (ap (λ (t : Bool). t && (ltb (word a.functions.now a.row 2) a.sorts && ltb (word a.functions.now a.row 3) a.sorts)) (sym c.is_name.ensures ∙ w.if-is_name.false))
    ]
