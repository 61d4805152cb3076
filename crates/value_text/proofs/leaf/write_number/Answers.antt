use native.Mathlib.Omega.{arith}
use Rattle.value_text.proofs.Leaves.{rest-past, rest-within, rest-text, rest-full}
use Rattle.decimals.specs.Decimal.{decimal}
use Rattle.value_text.proofs.leaf.write_number.Goals as goal

pub returns-then-out-at : goal.returns-then-out-at
returns-then-out-at c = rest-past (decimal c.args.number) _ _ c.if-out-at.true

pub overflow_add-result : goal.overflow_add-result
overflow_add-result c = record { fits = omega (arith, rest-within (decimal c.args.number) _ _ c.if-out-at.false _ _ c.write_natural.ensures _ c.in-Ok.is) }

pub returns-in-Ok : goal.returns-in-Ok
returns-in-Ok c = rest-text (decimal c.args.number) _ _ c.if-out-at.false _ _ c.write_natural.ensures _ c.in-Ok.is

pub returns-in-Err : goal.returns-in-Err
returns-in-Err c = rest-full (decimal c.args.number) _ _ c.if-out-at.false _ _ c.write_natural.ensures _ c.in-Err.is
