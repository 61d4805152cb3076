use native.Mathlib.Omega.{arith}
use lib.ListN.{length-set}
use Rattle.runs.proofs.Pairs.{pairs-within, pairs_set}
use Rattle.runs.proofs.places.set_place.Goals as goal

pub overflow_mul-index : goal.overflow_mul-index
overflow_mul-index c = record { fits = omega (arith, pairs-within c.args.index.now c.args.i c.requires.0) }

pub bounds-index-i : goal.bounds-index-i
bounds-index-i c = omega (arith, pairs-within c.args.index.now c.args.i c.requires.0)

pub overflow_mul-index-2 : goal.overflow_mul-index-2
overflow_mul-index-2 c = record { fits = omega (arith, pairs-within c.args.index.now c.args.i c.requires.0) }

pub overflow_add-index : goal.overflow_add-index
overflow_add-index c = record { fits = omega (arith, pairs-within c.args.index.now c.args.i c.requires.0) }

pub bounds-index-i-2 : goal.bounds-index-i-2
bounds-index-i-2 c = simp length-set (omega (arith, pairs-within c.args.index.now c.args.i c.requires.0))

pub returns : goal.returns
returns c = pairs_set c.args.index.now c.args.i c.args.p c.requires.0
