use Rattle.runs.proofs.Knits.{knitting_start, knitting_next, knitted_first, knitted_second}
use Rattle.runs.proofs.merges.knit.Goals as goal

pub loop-i-init : goal.loop-i-init
loop-i-init c = search (knitting_start)

pub returns-then-s-j : goal.returns-then-s-j
returns-then-s-j c = let a = c.args in knitted_first a.last a.a.now _ _ _ _ _ c.loop-i.invariant _ _ c.loop-i-test.true c.if-s-j.true c.put.ensures

pub loop-i-preserved : goal.loop-i-preserved
loop-i-preserved c = let a = c.args in knitting_next a.last a.a.now _ _ _ _ _ c.loop-i.invariant _ _ c.turn.auto.s c.turn.ensures

pub returns : goal.returns
returns c = let a = c.args in knitted_second a.last a.a.now _ _ _ _ _ c.loop-i.invariant _ _ c.loop-i-test.false c.draw.ensures
