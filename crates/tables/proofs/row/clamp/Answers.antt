use Rattle.tables.proofs.Ranges.{clamps_past, clamps_cut, clamps_whole}
use native.Mathlib.Omega.{arith}
use Rattle.tables.proofs.row.clamp.Goals as goal

pub returns-then-most-first : goal.returns-then-most-first
returns-then-most-first c = clamps_past _ _ _ c.if-most-first.true

pub returns-then-left-size : goal.returns-then-left-size
returns-then-left-size c = clamps_cut _ _ _ (omega arith) c.if-left-size.true

pub returns : goal.returns
returns c = clamps_whole _ _ _ (omega arith) (omega arith)
