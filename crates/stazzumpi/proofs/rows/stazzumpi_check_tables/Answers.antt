use mathlib.Core.Path.{sym, ap, ◌∙◌}
use Rattle.told.specs.Tells.{word_of}
use Rattle.told.specs.Yields.{passed}
use Rattle.stazzumpi.proofs.rows.stazzumpi_check_tables.Goals as goal

pub returns-in-Ok : goal.returns-in-Ok
returns-in-Ok c = ap (λ a. word_of (passed a)) (sym c.in-Ok.is ∙ c.check_tables-answer.ensures)

pub returns-in-Err : goal.returns-in-Err
returns-in-Err c = c.code.ensures ∙ ap (λ a. word_of (passed a)) (sym c.in-Err.is ∙ c.check_tables-answer.ensures)
