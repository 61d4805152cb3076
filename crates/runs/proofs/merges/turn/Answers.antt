use native.Mathlib.Omega.{arith}
use Rattle.runs.proofs.Knits.{turned-first, turned-second, turned-later, turned-earlier}
use mathlib.Core.Bool.{true}
use Rattle.runs.proofs.Knits.{laid_in, slid_in}
use Rattle.runs.proofs.merges.turn.Goals as goal

pub overflow_add-result : goal.overflow_add-result
overflow_add-result c = omega (arith, laid_in c.args.last _ _ _ _ _ c.requires.0 c.requires.1 c.requires.2 true _ _ c.lay-next.auto.s c.lay-next.ensures)

pub returns-then-less : goal.returns-then-less
returns-then-less c = turned-first _ _ _ _ _ _ c.requires.0 c.requires.1 c.requires.2 _ _ _ c.lay-next.auto.s c.lay-next.ensures c.less.ensures c.if-less.true

pub overflow_add-result-then-less-2 : goal.overflow_add-result-then-less-2
overflow_add-result-then-less-2 c = omega (arith, slid_in c.args.last _ _ _ _ _ c.requires.0 c.requires.1 c.requires.2 true _ _ c.slide-next.auto.s c.slide-next.ensures)

pub returns-then-less-2 : goal.returns-then-less-2
returns-then-less-2 c = turned-second _ _ _ _ _ _ c.requires.0 c.requires.1 c.requires.2 _ _ _ c.slide-next.auto.s c.slide-next.ensures c.less-2.ensures c.if-less-2.true

pub returns-then-last : goal.returns-then-last
returns-then-last c = turned-later _ _ _ _ _ _ c.requires.0 c.requires.1 c.requires.2 true _ _ _ c.less.ensures c.if-less.false c.less-2.ensures c.if-less-2.false c.if-last.true c.after-e.ensures

pub returns : goal.returns
returns c = turned-earlier _ _ _ _ _ _ c.requires.0 c.requires.1 c.requires.2 true _ _ _ c.less.ensures c.if-less.false c.less-2.ensures c.if-less-2.false c.if-last.false c.after-e-2.ensures
