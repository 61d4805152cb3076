use native.Mathlib.Omega.{arith}
use Rattle.tokens.proofs.Digits.{run_inside, vector-is}
use Rattle.tokens.proofs.lexeme.bit_vector.Goals as goal

pub overflow_sub-result : goal.overflow_sub-result
overflow_sub-result c = omega (arith, run_inside c.args.s.now c.args.start _ c.args.radix c.requires c.run_end-end.ensures)

pub overflow_sub-result-2 : goal.overflow_sub-result-2
overflow_sub-result-2 c = omega (arith, run_inside c.args.s.now c.args.start _ c.args.radix c.requires c.run_end-end.ensures)

pub overflow_add-result : goal.overflow_add-result
overflow_add-result c = record { fits = omega (arith, run_inside c.args.s.now c.args.start _ c.args.radix c.requires c.run_end-end.ensures) }

pub returns : goal.returns
returns c = vector-is c.args.s.now c.args.start _ c.args.radix c.requires c.run_end-end.ensures
