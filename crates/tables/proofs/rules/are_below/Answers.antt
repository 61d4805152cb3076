use mathlib.Core.Path.{sym, ◌∙◌}
use native.Mathlib.Omega.{arith}
use Rattle.tables.proofs.Rights.{below-no, below-yes, below_end}
use Rattle.tables.proofs.rules.are_below.Goals as goal

pub returns-then-row-field : goal.returns-then-row-field
returns-then-row-field c = let a = c.args in sym (c.loop-field.invariant ∙ below-no a.fields.now a.row c.loop-field.field-index (omega arith) c.if-row-field.true)

pub loop-field-preserved : goal.loop-field-preserved
loop-field-preserved c = let a = c.args in c.loop-field.invariant ∙ below-yes a.fields.now a.row c.loop-field.field-index (omega arith) c.if-row-field.false

pub returns : goal.returns
returns c = let a = c.args in sym (c.loop-field.invariant ∙ below_end a.fields.now a.row c.loop-field.field-index (omega arith))
