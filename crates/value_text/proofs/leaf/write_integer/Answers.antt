use native.Mathlib.Omega.{arith}
use Rattle.value_text.proofs.Leaves.{rest-past, integer-within, integer_text, integer_full}
use Rattle.decimals.specs.Decimal.{signed_decimal}
use Rattle.value_text.proofs.leaf.write_integer.Goals as goal

pub returns-then-out-at : goal.returns-then-out-at
returns-then-out-at c = rest-past (signed_decimal c.args.number) _ _ c.if-out-at.true

pub overflow_add-result : goal.overflow_add-result
overflow_add-result c = record { fits = omega (arith, integer-within c.args.number c.ranges.number _ _ c.if-out-at.false _ _ c.write_signed.ensures _ c.in-Ok.is) }

pub returns-in-Ok : goal.returns-in-Ok
returns-in-Ok c = integer_text c.args.number c.ranges.number _ _ c.if-out-at.false _ _ c.write_signed.ensures _ c.in-Ok.is

pub returns-in-Err : goal.returns-in-Err
returns-in-Err c = integer_full c.args.number c.ranges.number _ _ c.if-out-at.false _ _ c.write_signed.ensures _ c.in-Err.is
