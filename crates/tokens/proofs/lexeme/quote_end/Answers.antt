use Rattle.tokens.proofs.Insides.{inside-start, inside-end, inside-passed, inside-last, inside-closed, inside-doubled}
use Rattle.tokens.proofs.lexeme.quote_end.Goals as goal

pub loop-at-init : goal.loop-at-init
loop-at-init c = inside-start _ _ c.requires

pub loop-at-preserved-then-s-at-ne34 : goal.loop-at-preserved-then-s-at-ne34
loop-at-preserved-then-s-at-ne34 c = inside-passed _ _ _ c.loop-at.invariant c.loop-at-test.true c.if-s-at-ne34.true

pub returns-then-s-next : goal.returns-then-s-next
returns-then-s-next c = inside-last _ _ _ c.loop-at.invariant c.loop-at-test.true c.if-s-at-ne34.false c.if-s-next.true

pub returns-then-s-next-ne34 : goal.returns-then-s-next-ne34
returns-then-s-next-ne34 c = inside-closed _ _ _ c.loop-at.invariant c.loop-at-test.true c.if-s-at-ne34.false c.if-s-next.false c.if-s-next-ne34.true

pub loop-at-preserved : goal.loop-at-preserved
loop-at-preserved c = inside-doubled _ _ _ c.loop-at.invariant c.loop-at-test.true c.if-s-at-ne34.false c.if-s-next.false c.if-s-next-ne34.false

pub returns : goal.returns
returns c = inside-end _ _ _ c.loop-at.invariant c.loop-at-test.false
