use mathlib.Core.Path.{sym, ap, ◌∙◌}
use lib.Seq.{sets}
use Prim.Native.Nat.{ℕ, ◌*◌}
use mathlib.Core.List.{List}
use Rattle.tables.specs.Layout.{stride}
use Rattle.tables_text.specs.Parse.{function_in}
use Rattle.tables_text.specs.Line.{function_line}
use Rattle.tables_text.specs.Words.{function_words}
use Rattle.tables_text.proofs.Spelled.{function-sound}
use Rattle.tables_text.proofs.Walks.{told-no-function, row-function, lined-past, lined-other, lined-row}
use Rattle.tables_text.proofs.walk.function_line.Goals as goal

pub returns-then-text-end : goal.returns-then-text-end
returns-then-text-end c = let a = c.args in lined-past function_in function_line function_words function-sound a.text.now _ _ c.requires.0 c.end_at-end.ensures _ a.table.now c.if-text-end.true

pub returns-in_err-name : goal.returns-in_err-name
returns-in_err-name c = let a = c.args in rw c.from_residual.ensures (lined-other function_in function_line function_words function-sound a.text.now _ _ c.requires.0 c.end_at-end.ensures _ a.table.now c.if-text-end.false (told-no-function _ (sym c.in_err-name.was ∙ c.function_in.ensures)))

pub returns : goal.returns
returns c = let a = c.args in let t = row-function a.at _ _ _ _ (sym c.in_ok-name.was ∙ c.function_in.ensures) in lined-row function_in function_line function_words function-sound a.text.now _ _ c.requires.0 c.end_at-end.ensures _ a.table.now c.if-text-end.false t.0 t.1 _ (c.put_row.ensures ∙ ap (λ (w : List ℕ). sets a.table.now (a.row * stride) w) t.2)
