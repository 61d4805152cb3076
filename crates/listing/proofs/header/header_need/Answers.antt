use native.Mathlib.Omega.{arith}
use Rattle.listing.proofs.Sizes.{header-sum, header-need}
use Rattle.listing.proofs.header.header_need.Goals as goal

pub overflow_add-result : goal.overflow_add-result
overflow_add-result c = record { fits = omega (arith, header-sum c.args.variables c.args.functions _ _ c.digit_count.ensures c.digit_count-2.ensures) }

pub overflow_add-result-2 : goal.overflow_add-result-2
overflow_add-result-2 c = record { fits = omega (arith, header-sum c.args.variables c.args.functions _ _ c.digit_count.ensures c.digit_count-2.ensures) }

pub returns : goal.returns
returns c = header-need c.args.variables c.args.functions _ _ c.digit_count.ensures c.digit_count-2.ensures
