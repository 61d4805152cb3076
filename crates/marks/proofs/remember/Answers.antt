use Rattle.marks.specs.Mark.{remembered}
use Rattle.marks.proofs.Marks.{past-remembered, put_in, put_in_fits, left_out}
use mathlib.Core.Path.{sym, ap, ◌∙◌}
use Prim.Native.Nat.{ℕ, ◌/◌}
use lib.ListN.{set}
use Rattle.marks.proofs.remember.Goals as goal
use Rattle.marks.proofs.remember.Goals.{then-truth, else-truth}

pub returns-then-marks-place : goal.returns-then-marks-place
returns-then-marks-place c = past-remembered c.args.marks.now c.args.node c.args.truth c.if-marks-place.true

pub overflow_add-marks : goal.overflow_add-marks
overflow_add-marks c = let a = c.args in record { fits = put_in_fits a.marks.now a.node _ c.cleared-word.ensures (c.type_inv.marks (a.node / 128)).fits }

pub returns : goal.returns
returns c = let a = c.args in elim c.if-truth.branch [
  | then-truth w ↦ ap (λ (n : ℕ). set a.marks.now (a.node / 128) n) w.marks-is ∙ put_in a.marks.now a.node _ c.cleared-word.ensures ∙ ap (remembered a.marks.now a.node) (sym w.if-truth.true)
  | else-truth w ↦ ap (λ (n : ℕ). set a.marks.now (a.node / 128) n) w.marks-is ∙ left_out a.marks.now a.node _ c.cleared-word.ensures ∙ ap (remembered a.marks.now a.node) (sym w.if-truth.false)
]
