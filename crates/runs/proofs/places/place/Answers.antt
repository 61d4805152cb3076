use Prim.Native.Nat.{◌*◌, ◌+◌}
use native.Mathlib.Omega.{arith}
use Rattle.runs.proofs.Pairs.{pairs-within, place_read}
use Rattle.runs.proofs.places.place.Goals as goal

pub overflow_mul-result : goal.overflow_mul-result
overflow_mul-result c = record { fits = omega (arith, pairs-within c.args.index.now c.args.i c.requires) }

pub bounds-index-i : goal.bounds-index-i
bounds-index-i c = omega (arith, pairs-within c.args.index.now c.args.i c.requires)

pub overflow_mul-result-2 : goal.overflow_mul-result-2
overflow_mul-result-2 c = record { fits = omega (arith, pairs-within c.args.index.now c.args.i c.requires) }

pub overflow_add-result : goal.overflow_add-result
overflow_add-result c = record { fits = omega (arith, pairs-within c.args.index.now c.args.i c.requires) }

pub bounds-index-i-2 : goal.bounds-index-i-2
bounds-index-i-2 c = omega (arith, pairs-within c.args.index.now c.args.i c.requires)

pub overflow_mul-result-3 : goal.overflow_mul-result-3
overflow_mul-result-3 c = record { fits = omega (arith, (c.shared_slice_known-1.given (2 * c.args.i + 1)).fits) }

pub overflow_add-result-2 : goal.overflow_add-result-2
overflow_add-result-2 c = record { fits = omega (arith, (c.shared_slice_known-1.given (2 * c.args.i)).fits, (c.shared_slice_known-1.given (2 * c.args.i + 1)).fits) }

pub returns : goal.returns
returns c = place_read c.args.index.now c.args.i c.requires (c.shared_slice_known-1.given (2 * c.args.i)).fits (c.shared_slice_known-1.given (2 * c.args.i + 1)).fits
