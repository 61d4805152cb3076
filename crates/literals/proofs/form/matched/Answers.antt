use mathlib.Core.Path.{refl}
use Rattle.std.proofs.Common.{Ok}
use Rattle.literals.proofs.Answers.{match_other, match_same}
use Rattle.literals.proofs.form.matched.Goals as goal

pub returns-then-literal-wanted : goal.returns-then-literal-wanted
returns-then-literal-wanted c = let a = c.args in match_other (Ok a.literal) a.wanted a.literal.row a.literal.need a.literal.is_set refl c.if-literal-wanted.true

pub returns : goal.returns
returns c = let a = c.args in match_same (Ok a.literal) a.wanted a.literal.row a.literal.need a.literal.is_set refl c.if-literal-wanted.false
