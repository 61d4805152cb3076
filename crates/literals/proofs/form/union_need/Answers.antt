use native.Mathlib.Omega.{arith}
use Rattle.literals.proofs.Needs.{union-first, union-second, union-both}
use Rattle.literals.proofs.form.union_need.Goals as goal

pub returns-then-a-le2 : goal.returns-then-a-le2
returns-then-a-le2 c = union-first c.args.a c.args.b c.if-a-le2.true

pub returns-then-b-le2 : goal.returns-then-b-le2
returns-then-b-le2 c = union-second c.args.a c.args.b c.if-b-le2.true

pub returns : goal.returns
returns c = let a = c.args in union-both a.a a.b c.plus.result (omega arith) (omega arith) c.plus.ensures
