use native.Mathlib.Omega.{arith}
use Rattle.literals.proofs.Fields.{no_field}
use Rattle.literals.proofs.decode.field_row.Goals as goal

pub returns-then-fields-first : goal.returns-then-fields-first
returns-then-fields-first c = no_field c.args.fields.now c.args.first c.args.i (omega arith)

pub returns-then-fields-first-2 : goal.returns-then-fields-first-2
returns-then-fields-first-2 c = no_field c.args.fields.now c.args.first c.args.i (omega arith)
