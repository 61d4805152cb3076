use Prim.Native.Nat.{ℕ, ◌/◌, ◌%◌}
use native.Mathlib.Omega.{arith}
use mathlib.Core.Path.{sym, ap, ◌∙◌}
use Rattle.marks.specs.Mark.{bit}
use Rattle.marks.proofs.Marks.{marked-is, past-marked}
use Rattle.marks.proofs.marked.Goals as goal

pub returns-in_default : goal.returns-in_default
returns-in_default c = past-marked c.args.marks.now c.args.node (omega (arith, c.in_default.ensures.lookup))

pub returns : goal.returns
returns c = ap (λ (n : ℕ). bit n (c.args.node / 2 % 64)) (grind (arith, c.in-Some.ensures.lookup)) ∙ sym (marked-is c.args.marks.now c.args.node)
