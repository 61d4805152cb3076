use Rattle.std.proofs.Common.{rules}
use Rattle.tables_text.proofs.Numerals.{number-empty, number_digits, number-zero, number_leading}
use native.Mathlib.Omega.{arith}
use Rattle.tables_text.proofs.number.number_in.Goals as goal

pub returns-then-is_empty : goal.returns-then-is_empty
returns-then-is_empty c = number-empty c.args.s.now (search rules)

pub returns-then-s-ne48 : goal.returns-then-s-ne48
returns-then-s-ne48 c = number_digits c.args.s.now _ (search rules) (λ h. omega (arith, c.if-s-ne48.true, h)) c.digits.ensures

pub returns-then-s-eq1 : goal.returns-then-s-eq1
returns-then-s-eq1 c = number-zero c.args.s.now (omega (arith, c.if-s-ne48.false)) c.if-s-eq1.true

pub returns : goal.returns
returns c = number_leading c.args.s.now (search rules) (omega (arith, c.if-s-ne48.false)) c.if-s-eq1.false
