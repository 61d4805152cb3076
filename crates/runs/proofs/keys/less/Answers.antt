use native.Mathlib.Omega.{arith}
use Rattle.runs.proofs.Words.{level-skipped, skipped-fits, level-none, level-less, level-more, level-next, level-room, level-room_2}
use borrow.Author.Rules.{rules}
use Rattle.runs.proofs.keys.less.Goals as goal

pub overflow_add-j : goal.overflow_add-j
overflow_add-j c = search (rules, skipped-fits)

pub loop-p-init : goal.loop-p-init
loop-p-init c = search (level-skipped)

pub returns-then-y-eq0 : goal.returns-then-y-eq0
returns-then-y-eq0 c = search (level-none)

pub returns-then-x-y : goal.returns-then-x-y
returns-then-x-y c = search (level-less)

pub returns-then-y-x : goal.returns-then-y-x
returns-then-y-x c = search (level-more)

pub overflow_add-i : goal.overflow_add-i
overflow_add-i c = omega (arith, level-room _ _ _ _ _ _ _ _ c.loop-p.invariant c.mark-x.ensures c.mark-y.ensures c.if-y-eq0.false c.if-x-y.false)

pub overflow_add-j-in-loop-p : goal.overflow_add-j-in-loop-p
overflow_add-j-in-loop-p c = omega (arith, level-room_2 _ _ _ _ _ _ _ _ c.loop-p.invariant c.mark-x.ensures c.mark-y.ensures c.if-y-eq0.false)

pub loop-p-smaller : goal.loop-p-smaller
loop-p-smaller c = omega (arith, level-room _ _ _ _ _ _ _ _ c.loop-p.invariant c.mark-x.ensures c.mark-y.ensures c.if-y-eq0.false c.if-x-y.false)

pub loop-p-preserved : goal.loop-p-preserved
loop-p-preserved c = search (level-next)
