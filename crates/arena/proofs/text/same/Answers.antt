use mathlib.Core.Path.{sym, ◌∙◌}
use native.Mathlib.Omega.{arith}
use borrow.Author.Tests.{ne_eqb}
use Rattle.std.proofs.lemmas.Bool.Decides.{nat_tests}
use Rattle.arena.proofs.Texts.{same_lengths, same_none, same_stop}
use Rattle.arena.proofs.text.same.Goals as goal

pub returns-then-a-b : goal.returns-then-a-b
returns-then-a-b c = same_lengths _ _ c.if-a-b.true

pub returns-then-is_empty : goal.returns-then-is_empty
returns-then-is_empty c = let a = c.args in same_none a.a.now a.b.now (omega (arith, c.if-a-b.false)) (grind (arith, nat_tests))

pub returns-else-a-b-2 : goal.returns-else-a-b-2
returns-else-a-b-2 c = let a = c.args in ne_eqb _ _ c.if-a-b-2.false ∙ sym (same_stop a.a.now a.b.now 0 (grind (arith, nat_tests)) (grind (arith, nat_tests)) c.if-a-b-2.false)
